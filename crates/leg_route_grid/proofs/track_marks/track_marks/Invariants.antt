-- The tracks so far are marked.
use Rattle.std.proofs.Common.{take}
use Rattle.leg_route_grid.specs.Steps.Lines.{HaveMarked}
use Rattle.leg_route_grid.proofs.ValueMarks.{IsTrackAmong, unset}
use Rattle.leg_route_grid.proofs.track_marks.track_marks.Given as goal

abbrev pub invariant-loop-track : goal.invariant-loop-track
invariant-loop-track g l =
    HaveMarked l.values (IsTrackAmong l.values l.number l.axis (take l.track-index l.track-items)) (unset l.values l.number l.axis) l.marks.items
