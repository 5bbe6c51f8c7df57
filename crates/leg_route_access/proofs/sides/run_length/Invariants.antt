use Rattle.std.proofs.Common.{◌≡◌, ℕ, ◌+◌, ◌<◌, Some, slice_get}
use Rattle.leg_rules.specs.declared.node.Node.{Node}
use Rattle.leg_route_access.specs.Steps.Towards.{LiesTowards}
use Rattle.leg_route_access.proofs.sides.run_length.Given as goal

abbrev pub invariant-loop-k : goal.invariant-loop-k
invariant-loop-k l = (k : ℕ) (a b : Node) → 0 < k → k < l.k → slice_get l.nodes k ≡ Some a → slice_get l.nodes (k + 1) ≡ Some b → LiesTowards l.side a b
