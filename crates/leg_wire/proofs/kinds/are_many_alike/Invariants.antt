-- A place for each shape that is looked at.
use Rattle.std.proofs.Common.{◌≡◌, length}
use Rattle.leg_wire.proofs.kinds.are_many_alike.Given as goal

abbrev pub invariant-loop-look : goal.invariant-loop-look
invariant-loop-look g l = length l.latest.items ≡ l.looks
