-- Walks over the grid by the numbers of slots.
use Rattle.std.specs.Prelude.{ℕ, List}
use Rattle.std.specs.List.{AllZip}
use Rattle.leg_rules.specs.declared.node.Node.{Node}
use Rattle.leg_rules.specs.Route.GridWalk.{IsGridWalk}
use Rattle.leg_route_grid.specs.Steps.Grid.{GridModel, IsNumberOf}

-- These are the numbers of the nodes of a walk over the grid, one after another.
pub record IsWalkByNumbers (grid : GridModel) (numbers : List ℕ) : Type 0 where
  pub nodes : List Node
  pub numbered : AllZip (IsNumberOf grid) numbers nodes
  pub walk : IsGridWalk grid.design nodes
