use Rattle.std.proofs.Common.{sym, ap, ◌∙◌, length, FitsSigned, w64}
use Rattle.std.proofs.lemmas.Int.{to_z-of_z}
use Rattle.leg_polygon.proofs.OddNumbers.{taken_out, put_behind}
use Rattle.leg_polygon.proofs.number_list.toggle_last.Goals as goal

pub returns-then-ends_with : goal.returns-then-ends_with
returns-then-ends_with g c =
    let fits : FitsSigned w64 c.args.number = c.ranges.number in
    let ends = simp to_z-of_z at (rw c.deref.ensures.value at (c.ends_with.ensures.yes c.if-ends_with.true)) in
    taken_out _ _ _ _ c.requires.rising ends (sym c.deref.ensures.len ∙ ap length c.deref.ensures.value) c.pop.ensures.rest

pub returns-in_ok-push : goal.returns-in_ok-push
returns-in_ok-push g c =
    let fits : FitsSigned w64 c.args.number = c.ranges.number in
    let other = simp to_z-of_z at (rw c.deref.ensures.value at (c.ends_with.ensures.no c.if-ends_with.false)) in
    put_behind _ _ _ c.requires.rising c.requires.upto other (simp to_z-of_z at c.in_ok-push.ensures.items)
