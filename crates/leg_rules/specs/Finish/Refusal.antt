-- When a design comes to a search for wires, and what its unfinished nets are (lefdef's own rules).
use Rattle.std.specs.Prelude.{◌≢◌, ◌<◌, ℕ, List, [], All, AllPairs}
use Rattle.leg_design_records.specs.Records.{DesignModel}
use Rattle.leg_rules.specs.Metal.Flat.{FlatModel}
use Rattle.leg_rules.specs.Joins.Violations.{IsOpenNet}
use Rattle.leg_rules.specs.declared.grid_limits.TheConstants.{GREATEST_GRID}
use Rattle.leg_rules.specs.Route.GridSize.{IsGridBeyond}
use Rattle.leg_rules.specs.Legal.{IsCleanIn}
use Rattle.leg_rules.specs.Finish.Reach.{AreReachable}

-- a design in whose flat no violation but open nets holds, and whose grid is not too large
pub record ComesToSearch (design : DesignModel) (flat : FlatModel) : Type 0 where
  pub clean : IsCleanIn design flat
  pub fits : ¬ IsGridBeyond GREATEST_GRID design

-- these nets are open, in increasing order, and there are some; and each piece can be reached, so that more rounds might finish them
pub record AreUnfinished (design : DesignModel) (flat : FlatModel) (nets : List ℕ) : Type 0 where
  pub some : nets ≢ []
  pub increasing : AllPairs (λ a b. a < b) nets
  pub are_open : All (IsOpenNet design flat) nets
  pub reachable : AreReachable design flat
