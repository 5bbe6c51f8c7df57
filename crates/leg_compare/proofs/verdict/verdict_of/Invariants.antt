use Rattle.std.proofs.Common.{take}
use Rattle.leg_compare.proofs.Counts.{AreCounted}
use Rattle.leg_compare.proofs.verdict.verdict_of.Given as goal

abbrev pub invariant-loop-difference : goal.invariant-loop-difference
invariant-loop-difference g l = AreCounted l.first (take l.difference-index l.differences) l.moves l.growths
