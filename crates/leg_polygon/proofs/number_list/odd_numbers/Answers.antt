use Rattle.std.proofs.Common.{[], pos, get_or, take, fold, FitsSigned, w64, rules, refl, sym, ap, ◌∙◌}
use Rattle.std.proofs.lemmas.Int.{to_z-of_z}
use Rattle.std.proofs.lemmas.List.{take_all}
use Rattle.std.proofs.lemmas.List.Sums.{fold_more}
use Rattle.leg_polygon.specs.Slab.{toggle}
use Rattle.leg_polygon.proofs.NumberFolds.{odd_rises}
use Rattle.leg_polygon.proofs.OddNumbers.{upto_next, odd_in_order}
use Rattle.leg_polygon.proofs.number_list.odd_numbers.Goals as goal

pub numbers-init : goal.numbers-init
numbers-init g c = c.new-odd.ensures.items

pub toggle_last-requires-clause-rising : goal.toggle_last-requires-clause-rising
toggle_last-requires-clause-rising g c = rw c.numbers.invariant (odd_rises (take c.numbers.number-index c.sort_unstable.new.self))

pub toggle_last-requires-clause-upto : goal.toggle_last-requires-clause-upto
toggle_last-requires-clause-upto g c =
    let fits : FitsSigned w64 (get_or c.sort_unstable.new.self c.numbers.number-index (pos 0)) = search rules in
    simp to_z-of_z (rw c.numbers.invariant (upto_next _ _ _ c.sort_unstable.ensures.sorted c.numbers-test.true refl))

pub numbers-preserved : goal.numbers-preserved
numbers-preserved g c =
    let fits : FitsSigned w64 (get_or c.sort_unstable.new.self c.numbers.number-index (pos 0)) = search rules in
    let next = simp to_z-of_z at c.in_ok-toggle_last.ensures in
    next ∙ ap (λ es. toggle es (get_or c.sort_unstable.new.self c.numbers.number-index (pos 0))) c.numbers.invariant
    ∙ sym (fold_more toggle [] c.sort_unstable.new.self c.numbers.number-index (pos 0) c.numbers-test.true)

pub returns : goal.returns
returns g c =
    c.numbers.invariant ∙ ap (fold toggle []) (take_all c.numbers.number-index c.sort_unstable.new.self c.numbers-test.false)
    ∙ odd_in_order _ _ c.sort_unstable.ensures.permutation
