-- A number for each piece.
use Rattle.std.proofs.Common.{◌≡◌, length}
use Rattle.leg_wire.proofs.stand_ins.latest_stand_ins.Given as goal

abbrev pub invariant-loop-k : goal.invariant-loop-k
invariant-loop-k g l = length l.stand_ins.items ≡ l.count
