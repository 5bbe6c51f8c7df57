-- What is found of pieces that cannot be reached, and what a search from one group of pieces to another answers.
use Rattle.std.specs.Prelude.{ℕ, List, Option, None, Some}
use Rattle.leg_design_records.specs.Records.{DesignModel}
use Rattle.leg_rules.specs.Metal.Flat.{FlatModel}
use Rattle.leg_rules.specs.Route.Walk.{NoWalk}
use Rattle.leg_route_grid.specs.Steps.Grid.{GridModel}
use Rattle.leg_route_grid.specs.Steps.NodeNumbers.{IsNodeAmong}
use Rattle.leg_rules.specs.Route.OpenMetal.{IsOpenNode, IsOpenStep}
use Rattle.leg_rules.specs.Finish.Reach.{IsFirstUnreachable, AreReachable}

-- no open walk of the net leads from a node in these slots to a node in those
abbrev pub HasNoWay : GridModel → FlatModel → ℕ → List ℕ → List ℕ → Type 0
HasNoWay grid flat net starts ends =
    NoWalk (IsOpenNode grid.design flat net) (IsOpenStep grid.design flat net) (IsNodeAmong grid starts) (IsNodeAmong grid ends)

-- the first piece of all nets that cannot be reached, by the numbers of its net and of itself, or none where each can
abbrev pub IsFirstUnreachableIfAny : DesignModel → FlatModel → Option (ℕ × ℕ) → Type 0
IsFirstUnreachableIfAny design flat None = AreReachable design flat
IsFirstUnreachableIfAny design flat (Some found) = IsFirstUnreachable design flat found.0 found.1
