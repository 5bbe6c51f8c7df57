-- The lines so far are marked.
use Rattle.leg_route_grid.specs.Steps.Lines.{HaveMarked}
use Rattle.leg_route_grid.proofs.TrackLines.{IsLineBelow}
use Rattle.leg_route_grid.proofs.track_marks.mark_lines.Given as goal

abbrev pub invariant-loop-k : goal.invariant-loop-k
invariant-loop-k g l = HaveMarked l.values (IsLineBelow l.track l.k) l.fn.marks l.marks
