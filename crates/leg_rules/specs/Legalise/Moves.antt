-- How far components have moved (lefdef's own rule).
use Rattle.std.specs.Prelude.{◌≡◌, ℕ, ℤ, pos, ◌+ℤ◌, List, [], ◌∷◌, length, Some, slice_get}
use Rattle.std.specs.Int.{int_max}
use Rattle.leg_design_records.specs.Records.{DesignModel}
use Rattle.leg_design_records.specs.declared.records.Component.{Component}
use Rattle.leg_rules.specs.Legalise.Start.{moved_by}

-- the sum of the list
abbrev pub total_of : List ℤ → ℤ
total_of [] = pos 0
total_of (z ∷ zs) = z +ℤ total_of zs

-- the greatest number of the list, or 0 where all are below it
abbrev pub greatest_of : List ℤ → ℤ
greatest_of [] = pos 0
greatest_of (z ∷ zs) = int_max z (greatest_of zs)

-- for each component how far it has moved from its start, in file order; their sum, and the greatest of them
pub record AreMoves (before after : DesignModel) (each : List ℤ) (total greatest : ℤ) : Type 0 where
  pub count : length each ≡ length before.components
  pub distances : (c : ℕ) (old new : Component) → slice_get before.components c ≡ Some old → slice_get after.components c ≡ Some new
      → slice_get each c ≡ Some (pos (moved_by before.die old new))
  pub is_total : total ≡ total_of each
  pub is_greatest : greatest ≡ greatest_of each
