use Rattle.std.proofs.Common.{◌≡◌, true, refl, arith}
use Rattle.leg_design_records.specs.Names.{terminal_names}
use Rattle.leg_compare.proofs.ListsAlike.{all_alike, alike_at}
use Rattle.leg_compare.proofs.spelling.are_in_one_order.Goals as goal

pub returns-then-not-is_same_terminal : goal.returns-then-not-is_same_terminal
returns-then-not-is_same_terminal g c = (
  λ e. absurd (cc),
  λ h. absurd (let same : c.is_same_terminal.result ≡ true = c.is_same_terminal.ensures.1
      (alike_at (terminal_names c.args.first.now) (terminal_names c.args.second.now) c.args.a.now c.args.b.now c.loop-i.i _ _ h (omega arith)) in cc),
)

pub returns : goal.returns
returns g c = (
  λ e. all_alike (terminal_names c.args.first.now) (terminal_names c.args.second.now) c.args.a.now c.args.b.now (omega arith)
      (λ k d e within. c.loop-i.invariant k d e (omega arith)),
  λ h. refl,
)
