use Rattle.std.proofs.Common.{◌↔◌, IsTrue, sym, subst}
use Rattle.leg_rules.specs.declared.side.Side.{Side}
use Rattle.leg_rules.specs.declared.side.Side.TheVariants.{West, South, Below}
use Rattle.leg_route_grid.specs.Steps.NodeNumbers.{IsNeighbourAt}
use Rattle.leg_route_access.specs.Steps.AccessToNet.{IsStepAdmitted}
use Rattle.leg_route_grid.proofs.SlotRanges.{below_total}
use Rattle.leg_route_access.proofs.AccessSteps.{there_is}
use Rattle.leg_route_access.proofs.net_graph.NetGraphGraph.is_open_step.Goals as goal

pub number_to_west-requires-clause-there : goal.number_to_west-requires-clause-there
number_to_west-requires-clause-there g c =
    let to = c.requires.beside.0 in
    let B : Side → Type 0 = λ side. IsNeighbourAt c.args.self.now.grid.now side c.args.node to in
    (to, subst B c.in-West.is c.requires.beside.1.beside)

pub is_open_along-requires : goal.is_open_along-requires
is_open_along-requires g c = below_total c.args.self.now.grid.now c.number_to_west.result c.number_to_west.ensures.b c.number_to_west.ensures.b_is

pub returns-in-West : goal.returns-in-West
returns-in-West g c =
    let grid = c.args.self.now.grid.now in
    let slots = c.args.self.now.slots.now in
    let net = c.args.self.now.net in
    let n = c.args.node in
    let there = there_is grid c.grid_is_sound.ensures.proper slots (λ slot. slot.along) net West n c.number_to_west.result c.number_to_west.ensures in
    let says : IsTrue c.is_open_along.result ↔ IsStepAdmitted grid slots net West n =
    (λ is. there.1 (c.is_open_along.ensures.0 is), λ step. c.is_open_along.ensures.1 (there.0 step)) in
    let P : Side → Type 0 = λ side. IsTrue c.is_open_along.result ↔ IsStepAdmitted grid slots net side n in
    subst P (sym c.in-West.is) says

pub number_to_south-requires-clause-there : goal.number_to_south-requires-clause-there
number_to_south-requires-clause-there g c =
    let to = c.requires.beside.0 in
    let B : Side → Type 0 = λ side. IsNeighbourAt c.args.self.now.grid.now side c.args.node to in
    (to, subst B c.in-South.is c.requires.beside.1.beside)

pub is_open_along-requires-in-South : goal.is_open_along-requires-in-South
is_open_along-requires-in-South g c = below_total c.args.self.now.grid.now c.number_to_south.result c.number_to_south.ensures.b c.number_to_south.ensures.b_is

pub returns-in-South : goal.returns-in-South
returns-in-South g c =
    let grid = c.args.self.now.grid.now in
    let slots = c.args.self.now.slots.now in
    let net = c.args.self.now.net in
    let n = c.args.node in
    let there = there_is grid c.grid_is_sound.ensures.proper slots (λ slot. slot.along) net South n c.number_to_south.result c.number_to_south.ensures in
    let says : IsTrue c.is_open_along-in-South.result ↔ IsStepAdmitted grid slots net South n =
    (λ is. there.1 (c.is_open_along-in-South.ensures.0 is), λ step. c.is_open_along-in-South.ensures.1 (there.0 step)) in
    let P : Side → Type 0 = λ side. IsTrue c.is_open_along-in-South.result ↔ IsStepAdmitted grid slots net side n in
    subst P (sym c.in-South.is) says

pub number_below-requires-clause-there : goal.number_below-requires-clause-there
number_below-requires-clause-there g c =
    let to = c.requires.beside.0 in
    let B : Side → Type 0 = λ side. IsNeighbourAt c.args.self.now.grid.now side c.args.node to in
    (to, subst B c.in-Below.is c.requires.beside.1.beside)

pub is_open_above-requires : goal.is_open_above-requires
is_open_above-requires g c = below_total c.args.self.now.grid.now c.number_below.result c.number_below.ensures.b c.number_below.ensures.b_is

pub returns-in-Below : goal.returns-in-Below
returns-in-Below g c =
    let grid = c.args.self.now.grid.now in
    let slots = c.args.self.now.slots.now in
    let net = c.args.self.now.net in
    let n = c.args.node in
    let there = there_is grid c.grid_is_sound.ensures.proper slots (λ slot. slot.above) net Below n c.number_below.result c.number_below.ensures in
    let says : IsTrue c.is_open_above.result ↔ IsStepAdmitted grid slots net Below n =
    (λ is. there.1 (c.is_open_above.ensures.0 is), λ step. c.is_open_above.ensures.1 (there.0 step)) in
    let P : Side → Type 0 = λ side. IsTrue c.is_open_above.result ↔ IsStepAdmitted grid slots net side n in
    subst P (sym c.in-Below.is) says
