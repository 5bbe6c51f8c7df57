use Rattle.std.proofs.Common.{false, All, subst}
use Rattle.std.proofs.lemmas.Result.{err_from_is_err_and}
use Rattle.leg_design_records.specs.WellFormedNets.{IsWire}
use Rattle.leg_route.specs.Refusal.{IsRouteRefusal}
use Rattle.leg_route.proofs.routing.wires_for.Goals as goal

pub returns-clause-spelled : goal.returns-clause-spelled
returns-clause-spelled g c =
    subst (λ design. All (λ wires. All (IsWire design.library design.vias false) wires.items) c.in_ok-lists.lists.items)
    c.in_ok-ground.ensures.same_design c.in_ok-lists.ensures.spelled

pub returns-in_err-lists-clause-refused : goal.returns-in_err-lists-clause-refused
returns-in_err-lists-clause-refused g c =
    let p = err_from_is_err_and c.from_residual-in_err-lists.result c.from_residual-in_err-lists.ensures.1 in
    rw (p.1, p.2) (subst (λ design. IsRouteRefusal design c.in_err-lists.field-0.0) c.in_ok-ground.ensures.same_design c.in_err-lists.ensures.refused)
