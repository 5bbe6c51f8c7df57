use Rattle.std.proofs.Common.{◌<◌, arith}
use Rattle.leg_route_grid.specs.Steps.Grid.{slot_total}
use Rattle.leg_route_access.proofs.GridWalks.{one_there}
use Rattle.leg_route_access.proofs.grid_walk.has_node_of.Goals as goal

pub returns-then-number-size-clause-is : goal.returns-then-number-size-clause-is
returns-then-number-size-clause-is g c =
    let below : c.args.number < slot_total c.args.grid.now = (let less = c.if-number-size.true in let size = c.size.ensures.is in omega (arith, less, size)) in
    one_there c.args.grid.now c.args.number c.holds_node.result below c.holds_node.ensures
