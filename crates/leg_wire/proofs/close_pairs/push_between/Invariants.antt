use Rattle.std.proofs.Common.{◌≡◌, ◌++◌, take}
use Rattle.leg_wire.specs.Steps.Kinds.{pairs_between}
use Rattle.leg_wire.proofs.close_pairs.push_between.Given as goal

abbrev pub invariant-loop-first : goal.invariant-loop-first
invariant-loop-first g l = l.found.items ≡ l.initial.found.items ++ pairs_between (take l.first-index l.firsts) l.seconds
