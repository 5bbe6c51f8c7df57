-- The tree stays one of the net.
use Rattle.std.proofs.Common.{length}
use Rattle.leg_finish_search.specs.Steps.Tree.{IsTreeOf}
use Rattle.leg_finish_search.proofs.turn.join_at.Given as goal

abbrev pub invariant-loop-k : goal.invariant-loop-k
invariant-loop-k g l = IsTreeOf (g.L.Lattice.size_of l.ground.lattice.now) (length l.groups) l.tree
