-- The first of them have taken their places.
use Rattle.std.proofs.Common.{◌≡◌, take}
use Rattle.leg_legal.specs.Steps.AfterPlaces.{placed_all}
use Rattle.leg_legal.proofs.taken.with_places.Given as goal

abbrev pub invariant-loop-each : goal.invariant-loop-each
invariant-loop-each g l = l.design ≡ placed_all l.fn.design (take l.each-index l.taken)
