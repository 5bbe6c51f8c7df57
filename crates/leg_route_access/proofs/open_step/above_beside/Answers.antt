use Rattle.leg_wire_spacing.specs.Access.{Admits, alone}
use Rattle.leg_rules.specs.declared.side.Side.TheVariants.{Above}
use Rattle.leg_route_grid.specs.Steps.NodeNumbers.{IsNeighbourAt}
use Rattle.leg_route_access.proofs.StepsUp.{some_there, no_step_up, via_leads_up, up_answer}
use Rattle.leg_route_access.proofs.open_step.above_beside.Goals as goal

pub returns-then-is_none : goal.returns-then-is_none
returns-then-is_none g c net = (
  λ none. absurd none,
  no_step_up c.args.grid.now c.args.number c.beside.result (alone c.args.shape.now) net c.beside.ensures.proper c.if-is_none.ensures c.beside.ensures.is,
)

pub returns-in-Some : goal.returns-in-Some
returns-in-Some g c net =
    let grid = c.args.grid.now in
    let to = some_there (IsNeighbourAt grid Above c.args.number) c.beside.result c.if-is_none.ensures c.beside.ensures.is in
    up_answer grid c.beside.ensures.proper c.args.number to.0 c.slot-slot.result c.slot-slot.ensures.is to.1 c.node.result c.in-Some.via c.node.ensures.is
    c.in-Some.ensures.is c.args.design.now c.requires.of_design (alone c.args.shape.now) net
    (Admits c.via_beside.result net) (λ said there. c.via_beside.ensures said there net)

pub returns-in-None : goal.returns-in-None
returns-in-None g c net =
    let grid = c.args.grid.now in
    let to = some_there (IsNeighbourAt grid Above c.args.number) c.beside.result c.if-is_none.ensures c.beside.ensures.is in
    absurd (via_leads_up grid c.beside.ensures.proper c.args.number to.0 c.slot-slot.result c.slot-slot.ensures.is to.1 c.in-None.ensures.is)
