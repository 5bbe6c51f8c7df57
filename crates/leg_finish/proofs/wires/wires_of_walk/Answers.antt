use Rattle.leg_rules.specs.Route.GridWalk.{IsGridWalk}
use Rattle.leg_finish.proofs.WalkWires.{one_walk}
use Rattle.leg_finish.proofs.wires.wires_of_walk.Goals as goal

pub returns-clause-walks : goal.returns-clause-walks
returns-clause-walks g c =
    let design = c.args.design.now in
    let nodes = c.in_ok-nodes.nodes.items in
    let over : IsGridWalk c.args.grid.now.design nodes = c.is_walk.ensures.walk c.if-not-is_walk.false nodes c.in_ok-nodes.ensures in
    let is_walk : IsGridWalk design nodes = rw c.requires at over in
    one_walk design nodes c.in_ok-wires.wires.items is_walk (rw c.deref.ensures.value at c.in_ok-wires.ensures.wires)
