-- Both lists are taken out, and the one that they make is put in the place of the lower number.
use Rattle.std.proofs.Common.{◌≡◌, [], IsTrue, nat_eq, ◌∙◌, arith}
use Rattle.std.proofs.lemmas.Bool.Decides.{nat_tests}
use Rattle.leg_wire.proofs.MergedLists.{merged_as_written}
use Rattle.leg_wire.proofs.members.merge.Goals as goal

pub returns : goal.returns
returns g c =
    let low = c.args.low in
    let high = c.args.high in
    let empty = c.replace-others.new.dest in
    let is_empty : empty ≡ [] = c.replace-others.ensures.after ∙ c.from_vec-empty.ensures ∙ c.new.ensures.items in
    let into : low ≡ 0 → IsTrue (nat_eq low 0) = λ same. grind (arith, nat_tests, same) in
    merged_as_written c.args.members.now low high empty c.replace-own.new.dest c.replace-own.result c.replace-others.result c.in_ok-members.field-0
    c.index-members-low.result c.index-members-high.result
    (IsTrue (nat_eq low 0)) c.requires.order c.requires.within is_empty c.replace-own.ensures.value c.replace-others.ensures.value into
    c.in_ok-members.ensures
