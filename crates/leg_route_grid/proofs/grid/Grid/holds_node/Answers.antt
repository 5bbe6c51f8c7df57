use Rattle.leg_route_grid.proofs.GridSlots.{lies_at}
use Rattle.leg_route_grid.proofs.grid.Grid.holds_node.Goals as goal

pub returns : goal.returns
returns g c node number =
    c.has_node.ensures node (lies_at c.args.self.now c.args.number c.slot.result.layer c.slot.result.row c.slot.result.column node c.slot.ensures.is number)
