-- The pieces of a net without a mark, as violations.
use Rattle.std.specs.Prelude.{◌≡◌, ℕ, Bool, false, List, Some, slice_get}
use Rattle.leg_design_records.specs.declared.fault.Fault.{Fault}
use Rattle.leg_design_records.specs.declared.fault.Fault.TheVariants.{OpenNet}

-- the violation names the net of this number, and a piece whose mark isn't set
pub data NamesOnlyUnmarked (net : ℕ) (marks : List Bool) : Fault → Type 0 where
  unmarked : {k : ℕ} → slice_get marks k ≡ Some false → NamesOnlyUnmarked net marks (OpenNet net k)
