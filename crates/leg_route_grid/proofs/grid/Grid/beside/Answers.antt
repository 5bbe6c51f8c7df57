use Rattle.std.proofs.Common.{◌≡◌, true, rules}
use Rattle.leg_route_grid.specs.Steps.NodeNumbers.{IsNeighbourAt}
use Rattle.leg_route_grid.proofs.StepsAt.{none_here, none_beside, none_there, steps_there, only_there, none_is, some_is}
use Rattle.leg_route_grid.proofs.grid.Grid.beside.Goals as goal

pub returns-then-not-has_node-clause-is : goal.returns-then-not-has_node-clause-is
returns-then-not-has_node-clause-is g c =
    none_is (IsNeighbourAt c.args.self.now c.args.side c.args.number)
    (none_here c.args.self.now c.args.side c.args.number c.slot-slot.result c.slot-slot.ensures.proper c.slot-slot.ensures.is
    (λ node lies is. let set : c.has_node.result ≡ true = (c.has_node.ensures node lies).1 is in let other = c.if-not-has_node.true in cc))

pub returns-then-has_node-clause-is : goal.returns-then-has_node-clause-is
returns-then-has_node-clause-is g c =
    some_is (IsNeighbourAt c.args.self.now c.args.side c.args.number) c.number_at.result
    (steps_there c.args.self.now c.args.side c.args.number c.slot-slot.result c.slot-slot.ensures.proper c.slot-slot.ensures.is c.in-Some.next
    c.in-Some.ensures c.number_at.result c.number_at.ensures.is
    (λ node lies. let other = c.if-not-has_node.false in (c.has_node.ensures node lies).0 (search rules))
    (λ node lies. (c.has_node-in-Some.ensures node lies).0 c.if-has_node.true))
    (only_there c.args.self.now c.args.side c.args.number c.slot-slot.result c.slot-slot.ensures.proper c.slot-slot.ensures.is c.in-Some.next
    c.in-Some.ensures c.number_at.result c.number_at.ensures.is)

pub returns-else-has_node-clause-is : goal.returns-else-has_node-clause-is
returns-else-has_node-clause-is g c =
    none_is (IsNeighbourAt c.args.self.now c.args.side c.args.number)
    (none_there c.args.self.now c.args.side c.args.number c.slot-slot.result c.slot-slot.ensures.proper c.slot-slot.ensures.is c.in-Some.next c.in-Some.ensures
    (λ node lies is. let set : c.has_node-in-Some.result ≡ true = (c.has_node-in-Some.ensures node lies).1 is in let other = c.if-has_node.false in cc))

pub returns-in-None-clause-is : goal.returns-in-None-clause-is
returns-in-None-clause-is g c =
    none_is (IsNeighbourAt c.args.self.now c.args.side c.args.number)
    (none_beside c.args.self.now c.args.side c.args.number c.slot-slot.result c.slot-slot.ensures.proper c.slot-slot.ensures.is c.in-None.ensures)
