use Rattle.std.proofs.Common.{take}
use Rattle.leg_route_grid.proofs.TrackLines.{AreLines}
use Rattle.leg_route_grid.proofs.lines.lines_along.Given as goal

abbrev pub invariant-loop-track : goal.invariant-loop-track
invariant-loop-track g l = AreLines l.design.library l.direction l.axis (take l.track-index l.track-items) l.values.items
