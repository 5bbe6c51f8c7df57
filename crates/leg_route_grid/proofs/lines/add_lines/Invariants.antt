use Rattle.leg_route_grid.proofs.TrackLines.{HasFirstLines}
use Rattle.leg_route_grid.proofs.lines.add_lines.Given as goal

abbrev pub invariant-loop-k : goal.invariant-loop-k
invariant-loop-k g l = HasFirstLines l.track l.fn.values.items l.k l.values.items
