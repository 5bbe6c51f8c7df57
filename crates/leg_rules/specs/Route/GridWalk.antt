-- Walks over the grid, open or not (lefdef's own rules).
use Rattle.std.specs.Prelude.{◌≡◌, ℕ, ◌+◌, ◌<◌, List, length, Some, slice_get}
use Rattle.leg_design_records.specs.Records.{DesignModel}
use Rattle.leg_rules.specs.declared.side.Side.{Side}
use Rattle.leg_rules.specs.declared.node.Node.{Node}
use Rattle.leg_rules.specs.Route.Nodes.{IsNode}
use Rattle.leg_rules.specs.Route.Neighbours.{IsNeighbour}

-- These are the nodes of a walk over the grid: there is one at least, and each is beside the one before.
pub record IsGridWalk (design : DesignModel) (nodes : List Node) : Type 0 where
  pub some : 0 < length nodes
  pub each : (k : ℕ) (a : Node) → slice_get nodes k ≡ Some a → IsNode design a
  pub beside : (k : ℕ) (a b : Node) → slice_get nodes k ≡ Some a → slice_get nodes (k + 1) ≡ Some b → (side : Side) × IsNeighbour design side a b
