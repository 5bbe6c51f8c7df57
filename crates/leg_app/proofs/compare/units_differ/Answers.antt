use Rattle.std.proofs.Common.{inr, sym, subst}
use Rattle.leg_app.specs.declared.status.Status.TheVariants.{Violations}
use Rattle.leg_app.specs.Comparison.{HasOtherUnits}
use Rattle.leg_app.proofs.Comparisons.{tells_none}
use Rattle.leg_app.proofs.compare.units_differ.Goals as goal

pub returns : goal.returns
returns g c = λ profile lefs before after other. record {
  answer = inr (subst (λ t. HasOtherUnits profile lefs before after t) (sym c.in_ok-text.ensures.items) other);
  explains = tt;
  tells = rw c.one_order.ensures (tells_none profile lefs before after Violations (λ no. cc));
}
