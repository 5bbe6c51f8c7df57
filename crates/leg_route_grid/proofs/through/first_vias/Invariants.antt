-- The first of the vias so far, for each of the routing layers.
use Rattle.leg_route_grid.specs.Steps.Joining.{AreFirstVias}
use Rattle.leg_route_grid.proofs.through.first_vias.Given as goal

abbrev pub invariant-loop-number : goal.invariant-loop-number
invariant-loop-number g l = AreFirstVias l.library l.layers l.only_default l.number l.firsts.items
