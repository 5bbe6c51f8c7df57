use Rattle.std.proofs.Common.{sym}
use Rattle.std.proofs.lemmas.List.{take_all}
use Rattle.leg_route_grid.proofs.TrackLines.{one_track_more}
use Rattle.leg_route_grid.proofs.lines.lines_along.Goals as goal

pub loop-track-preserved : goal.loop-track-preserved
loop-track-preserved g c =
    one_track_more _ _ _ _ _ _ _ _ c.loop-track-test.true (sym c.track-item.is) c.loop-track.invariant
    (rw c.library-library.ensures.is at c.in_ok-add_lines_for.ensures)

pub returns : goal.returns
returns g c =
    rw (take_all c.loop-track.track-index c.tracks-track-items.result.now c.loop-track-test.false, c.tracks-track-items.ensures.is) at c.loop-track.invariant
