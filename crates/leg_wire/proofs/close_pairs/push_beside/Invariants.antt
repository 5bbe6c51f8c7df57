use Rattle.std.proofs.Common.{◌≡◌, ◌++◌, map, take}
use Rattle.leg_sweep.specs.Steps.Sweep.{ordered}
use Rattle.leg_wire.proofs.close_pairs.push_beside.Given as goal

abbrev pub invariant-loop-second : goal.invariant-loop-second
invariant-loop-second g l = l.found.items ≡ l.initial.found.items ++ map (ordered l.first) (take l.second-index l.seconds)
