use Rattle.std.proofs.Common.{◌≡◌, true, refl, sym, ap, ◌∙◌, arith}
use Rattle.leg_rules.specs.Compare.Spelling.{spelled_wire}
use Rattle.leg_compare.proofs.Growth.{goes_on, no_shorter, alike}
use Rattle.leg_compare.proofs.spelling.go_on.Goals as goal

pub returns-then-a-b : goal.returns-then-a-b
returns-then-a-b g c =
    (λ e. absurd (cc), λ h. absurd (omega (arith, no_shorter (spelled_wire c.args.first.now) (spelled_wire c.args.second.now) c.args.a.now c.args.b.now h)))

pub returns-then-not-is_same_wire : goal.returns-then-not-is_same_wire
returns-then-not-is_same_wire g c = (
  λ e. absurd (cc),
  λ h. absurd (let same : c.is_same_wire.result ≡ true = c.is_same_wire.ensures.1
      (ap (spelled_wire c.args.first.now) c.index-a-i.is
      ∙ alike (spelled_wire c.args.first.now) (spelled_wire c.args.second.now) c.args.a.now c.args.b.now h c.loop-i.i c.index-a-i.result c.index-b-i.result
      (omega arith)
      ∙ sym (ap (spelled_wire c.args.second.now) c.index-b-i.is)) in cc),
)

pub returns : goal.returns
returns g c = (
  λ e. goes_on (spelled_wire c.args.first.now) (spelled_wire c.args.second.now) c.args.a.now c.args.b.now (omega arith)
      (λ k d e within. c.loop-i.invariant k d e (omega arith)),
  λ h. refl,
)
