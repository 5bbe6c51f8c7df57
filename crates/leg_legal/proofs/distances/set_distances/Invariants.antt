-- The first of them have taken their places.
use Rattle.std.proofs.Common.{take}
use Rattle.leg_legal.specs.Steps.Distances.{AreDistances}
use Rattle.leg_legal.specs.Steps.AfterPlaces.{placed_all}
use Rattle.leg_legal.proofs.distances.set_distances.Given as goal

abbrev pub invariant-loop-each : goal.invariant-loop-each
invariant-loop-each g l = AreDistances l.fn.design (placed_all l.fn.design (take l.each-index l.taken)) l.distances
