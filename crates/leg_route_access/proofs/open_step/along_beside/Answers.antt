use Rattle.std.proofs.Common.{◌↔◌, ℤ, FitsSigned, w64, subst, arith}
use Rattle.std.proofs.lemmas.Int.{ints, to_z-of_z}
use Rattle.leg_wire_spacing.specs.Access.{Admits, alone}
use Rattle.leg_rules.specs.Route.OpenMetal.{IsOpenWire}
use Rattle.leg_route_access.proofs.OpenSteps.{line_of}
use Rattle.leg_route_access.proofs.StepsAlong.{none_along, next_stretch, along_answer}
use Rattle.leg_route_access.proofs.open_step.along_beside.Goals as goal

pub returns-in_default : goal.returns-in_default
returns-in_default g c net = (
  λ none. absurd none,
  none_along c.args.grid.now c.args.number (alone c.args.shape.now) net c.in_default.ensures.proper c.in_default.ensures.is,
)

pub strip_beside-requires-clause-stretch : goal.strip_beside-requires-clause-stretch
strip_beside-requires-clause-stretch g c =
    next_stretch c.args.grid.now c.in-Some.ensures.proper c.args.number c.in-Some.next c.node-a.result c.node-b.result c.node-a.ensures.is c.node-b.ensures.is
    c.in-Some.ensures.is

pub returns : goal.returns
returns g c net =
    let design = c.args.design.now in
    let flat = alone c.args.shape.now in
    let a = c.node-a.result in
    let b = c.node-b.result in
    let width = c.width_at.result in
    let fits : FitsSigned w64 width = let within = c.width_at.ensures.proper.within in omega (arith, ints, within) in
    let runs = c.width_at.ensures.is a c.node-a.ensures.is in
    let Denotes : ℤ → Type 0 = λ w. Admits c.strip_beside.result net ↔ IsOpenWire design flat net (line_of design flat net a b w) in
    let says = subst Denotes (to_z-of_z w64 width fits) (c.strip_beside.ensures.forth net) in
    along_answer c.args.grid.now c.in-Some.ensures.proper c.args.number c.in-Some.next a b c.node-a.ensures.is c.node-b.ensures.is design c.requires.of_design
    flat net (Admits c.strip_beside.result net) runs.0 width runs.1 c.in-Some.ensures.is says
