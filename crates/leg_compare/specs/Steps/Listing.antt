-- A list of differences that is made in order.
use Rattle.std.specs.Prelude.{ℕ, List, All, AllPairs, Contains}
use Rattle.leg_design_records.specs.Records.{DesignModel}
use Rattle.leg_rules.specs.declared.difference.Difference.{Difference}
use Rattle.leg_rules.specs.Compare.Differences.{IsDifference}
use Rattle.leg_rules.specs.Compare.Order.{Rank, rank, IsBelow, IsListedBefore}

-- the list has exactly the differences whose rank is below the bound, in order
pub record AreListedTo (first second : DesignModel) (bound : Rank) (list : List Difference) : Type 0 where
  pub increasing : AllPairs IsListedBefore list
  pub each : All (λ d. IsDifference first second d × IsBelow (rank d) bound) list
  pub all : (d : Difference) → IsDifference first second d → IsBelow (rank d) bound → Contains list d

-- the rank of these three numbers
abbrev pub at : ℕ → ℕ → ℕ → Rank
at stage entry change = record { stage = stage; entry = entry; change = change }
