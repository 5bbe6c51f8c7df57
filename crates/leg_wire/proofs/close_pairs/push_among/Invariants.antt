use Rattle.std.proofs.Common.{◌≡◌, ◌++◌, take}
use Rattle.leg_wire.specs.Steps.Kinds.{pairs_among}
use Rattle.leg_wire.proofs.close_pairs.push_among.Given as goal

abbrev pub invariant-loop-first : goal.invariant-loop-first
invariant-loop-first g l = l.found.items ≡ l.initial.found.items ++ pairs_among l.members (take l.first-index l.close)
