-- The pieces so far are marked.
use Rattle.std.proofs.Common.{take}
use Rattle.leg_route.specs.Steps.JoinedPart.{HaveMarked}
use Rattle.leg_route.proofs.joined_part.mark_joined.Given as goal

abbrev pub invariant-loop-piece : goal.invariant-loop-piece
invariant-loop-piece g l = HaveMarked l.fn.joined.items l.count (take l.piece-index l.come) l.joined.items
