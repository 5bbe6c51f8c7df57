use Rattle.std.proofs.Common.{pos, get_or, FitsSigned, w64, rules, ◌∙◌, refl, arith}
use Rattle.std.proofs.lemmas.Int.{ints, to_z-of_z}
use Rattle.leg_polygon.proofs.AloneNumbers.{first_below, second_below, both_same, only_second}
use Rattle.leg_polygon.proofs.number_list.in_one_alone.Goals as goal

pub numbers-init : goal.numbers-init
numbers-init g c = record { is = rw c.new-alone.ensures.items refl; rise = c.requires.rising }

pub numbers-preserved-then-a-b : goal.numbers-preserved-then-a-b
numbers-preserved-then-a-b g c =
    let a : FitsSigned w64 (get_or c.numbers.first.now 0 (pos 0)) = search rules in
    let b : FitsSigned w64 (get_or c.numbers.second.now 0 (pos 0)) = search rules in
    first_below _ _ _ c.numbers.first.now c.numbers.second.now c.numbers.invariant c.in-len1-up.len_at_least c.in-len1-up-second.len_at_least
    (omega (arith, ints, c.if-a-b.true)) (simp to_z-of_z at c.in_ok-push-2.ensures.items)

pub numbers-preserved-then-b-a : goal.numbers-preserved-then-b-a
numbers-preserved-then-b-a g c =
    let a : FitsSigned w64 (get_or c.numbers.first.now 0 (pos 0)) = search rules in
    let b : FitsSigned w64 (get_or c.numbers.second.now 0 (pos 0)) = search rules in
    second_below _ _ _ c.numbers.first.now c.numbers.second.now c.numbers.invariant c.in-len1-up.len_at_least c.in-len1-up-second.len_at_least
    (omega (arith, ints, c.if-b-a.true)) (simp to_z-of_z at c.in_ok-push-3.ensures.items)

pub numbers-preserved : goal.numbers-preserved
numbers-preserved g c =
    both_same _ _ c.numbers.first.now c.numbers.second.now c.numbers.invariant c.in-len1-up.len_at_least c.in-len1-up-second.len_at_least
    (omega (arith, ints, c.if-a-b.false, c.if-b-a.false))

pub returns : goal.returns
returns g c = c.in_ok-extend_from_slice.ensures.items ∙ only_second _ _ c.numbers.first.now c.numbers.second.now c.numbers.invariant c.in_default.len_below
