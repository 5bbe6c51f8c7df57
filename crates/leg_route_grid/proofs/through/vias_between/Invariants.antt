use Rattle.leg_route_grid.specs.Steps.Grid.{AreViasFrom}
use Rattle.leg_route_grid.proofs.through.vias_between.Given as goal

abbrev pub invariant-loop-k : goal.invariant-loop-k
invariant-loop-k g l = AreViasFrom l.library l.layers l.k l.vias.items
