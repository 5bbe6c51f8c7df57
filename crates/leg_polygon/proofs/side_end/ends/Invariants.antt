use Rattle.std.proofs.Common.{◌≡◌, take, flat_map}
use Rattle.leg_polygon.specs.Steps.Sweep.{ends}
use Rattle.leg_polygon.proofs.side_end.ends.Given as goal

abbrev pub invariant-sides : goal.invariant-sides
invariant-sides g l = l.ends.items ≡ flat_map ends (take l.side-index l.walk)
