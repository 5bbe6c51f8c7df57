use Rattle.std.proofs.Common.{◌≡◌, true, refl, sym, ap, ◌∙◌, arith}
use Rattle.leg_design_records.specs.Records.{blockage_said}
use Rattle.leg_compare.proofs.ListsAlike.{all_alike, alike_at}
use Rattle.leg_compare.proofs.lists.are_same_blockages.Goals as goal

pub returns-then-not-is_same_blockage : goal.returns-then-not-is_same_blockage
returns-then-not-is_same_blockage g c = (
  λ e. absurd (cc),
  λ h. absurd (let same : c.is_same_blockage.result ≡ true = c.is_same_blockage.ensures.1
      (ap blockage_said c.index-a-i.is
      ∙ alike_at blockage_said blockage_said c.args.a.now c.args.b.now c.loop-i.i c.index-a-i.result c.index-b-i.result h (omega arith)
      ∙ sym (ap blockage_said c.index-b-i.is)) in cc),
)

pub returns : goal.returns
returns g c =
    (λ e. all_alike blockage_said blockage_said c.args.a.now c.args.b.now (omega arith) (λ k d e within. c.loop-i.invariant k d e (omega arith)), λ h. refl)
