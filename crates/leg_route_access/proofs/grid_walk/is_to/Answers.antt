use Rattle.std.proofs.Common.{Some, true≢false, sym, ap, ◌∙◌}
use Rattle.std.proofs.lemmas.Bool.{eqb-true, eq-eqb}
use Rattle.std.proofs.lemmas.Option.{same_Some, none-some}
use Rattle.leg_route_access.proofs.grid_walk.is_to.Goals as goal

pub returns-in-Some : goal.returns-in-Some
returns-in-Some g c =
    let beside = c.beside.ensures.is c.args.to in (
      λ same. beside.0 (c.in-Some.is ∙ ap Some (eqb-true c.in-Some.next c.args.to same)),
      λ step. eq-eqb c.in-Some.next c.args.to (same_Some c.in-Some.next c.args.to (sym c.in-Some.is ∙ beside.1 step)),
    )

pub returns-in-None : goal.returns-in-None
returns-in-None g c = (
  λ is. absurd (true≢false (sym is)),
  λ step. absurd (none-some c.args.to (sym c.in-None.is ∙ (c.beside.ensures.is c.args.to).1 step)),
)
