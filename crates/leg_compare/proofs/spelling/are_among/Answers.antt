use Rattle.std.proofs.Common.{◌≡◌, true, refl, arith}
use Rattle.leg_compare.proofs.WordSearch.{one_more_there, all_there, one_there}
use Rattle.leg_compare.proofs.spelling.are_among.Goals as goal

pub returns-then-not-is_among : goal.returns-then-not-is_among
returns-then-not-is_among c = (
  λ e. absurd (cc),
  λ h. absurd (let yes : c.is_among.result ≡ true = c.is_among.ensures.1
      (one_there c.args.others.now c.args.list.now c.loop-number.number _ (omega arith) h.each) in
      let no : ⊥ = cc (yes, c.if-not-is_among.true) in no),
)

pub loop-number-preserved : goal.loop-number-preserved
loop-number-preserved c =
    one_more_there c.args.others.now c.args.list.now c.loop-number.number _ (omega arith) c.loop-number.invariant (c.is_among.ensures.0 c.if-not-is_among.false)

pub returns : goal.returns
returns c =
    (λ e. record { each = all_there c.args.others.now c.args.list.now (λ k d within. c.loop-number.invariant k d (omega arith)) }, λ h. refl)
