-- The shapes so far stand in the lists of their kinds.
use Rattle.leg_wire.proofs.AlikeMetal.{AreMembersOfFirst}
use Rattle.leg_wire.proofs.members.members_of.Given as goal

abbrev pub invariant-loop-shape : goal.invariant-loop-shape
invariant-loop-shape g l = AreMembersOfFirst l.numbers l.shape l.count l.members.items
