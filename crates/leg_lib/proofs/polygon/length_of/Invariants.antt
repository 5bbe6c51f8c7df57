use Rattle.std.proofs.Common.{Contains, drop}
use Rattle.leg_lib.proofs.polygon.length_of.Given as goal

abbrev pub invariant-lengths : goal.invariant-lengths
invariant-lengths l = Contains (drop l.length-index l.lengths) l.millionths
