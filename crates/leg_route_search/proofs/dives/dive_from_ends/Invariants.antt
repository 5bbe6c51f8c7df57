-- What the marks say stays true.
use Rattle.leg_route_search.specs.Steps.Dive.{AreTrueMarks}
use Rattle.leg_route_search.proofs.dives.dive_from_ends.Given as goal

abbrev pub invariant-loop-end : goal.invariant-loop-end
invariant-loop-end g l = AreTrueMarks g.G.Graph l.graph l.marks
