use Rattle.std.proofs.Common.{[], refl, arith}
use Rattle.leg_rules.specs.Compare.Sections.{names_of}
use Rattle.leg_compare.proofs.ListsAlike.{same_at_each}
use Rattle.leg_compare.proofs.order.are_in_one_order.Goals as goal

pub returns : goal.returns
returns g c = (
  λ _. same_at_each (names_of c.args.section c.args.first.now) (names_of c.args.section c.args.second.now) [] (omega arith)
      (λ k within. c.loop-number.invariant k (omega arith)),
  λ _. refl,
)
