use Rattle.leg_route_grid.proofs.OtherTracks.{NoneBelow}
use Rattle.leg_route_grid.proofs.lines.serve.Given as goal

abbrev pub invariant-loop-number : goal.invariant-loop-number
invariant-loop-number g l = NoneBelow l.library l.direction l.track l.number
