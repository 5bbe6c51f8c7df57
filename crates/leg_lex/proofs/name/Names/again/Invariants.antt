use Rattle.std.proofs.Common.{◌≡◌, take}
use Rattle.leg_lex.proofs.name.Names.again.Given as goal

abbrev pub invariant-loop-name : goal.invariant-loop-name
invariant-loop-name g l = l.names ≡ take l.name-index l.self
