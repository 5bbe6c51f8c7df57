-- Where nothing forbids it, all movable components are placed anew.
use Rattle.std.proofs.Common.{◌≡◌, [], length, sym, ◌∙◌}
use Rattle.std.proofs.lemmas.Bool.{eqb-true}
use Rattle.std.proofs.lemmas.List.{nil_from_length}
use Rattle.std.proofs.lemmas.Result.{IfOk-weaker, IfErr-weaker}
use Rattle.leg_rules.specs.Legalise.Refusals.{AreSuited}
use Rattle.leg_legal.proofs.Choices.{staying_from_none, chosen_run, refusal_of}
use Rattle.leg_legal.proofs.legaliser.places_of.Goals as goal

pub returns-clause-chosen : goal.returns-clause-chosen
returns-clause-chosen g c =
    let empty : length c.as_slice.result.now ≡ 0 = eqb-true (length c.as_slice.result.now) 0 (sym c.if-not-is_empty.ensures) in
    let none : c.in_ok-staying.staying.items ≡ [] = sym c.as_slice.ensures.value ∙ nil_from_length c.as_slice.result.now empty in
    let staying = staying_from_none c.args.design.now c.in_ok-staying.staying.items c.in_ok-staying.ensures none in
    IfOk-weaker c.take_all.result _ _ (λ taken r. chosen_run c.args.design.now taken.items c.requires.proper c.requires.sound staying c.requires.illegal r)
    c.take_all.ensures.run

pub returns-clause-refused : goal.returns-clause-refused
returns-clause-refused g c =
    let empty : length c.as_slice.result.now ≡ 0 = eqb-true (length c.as_slice.result.now) 0 (sym c.if-not-is_empty.ensures) in
    let none : c.in_ok-staying.staying.items ≡ [] = sym c.as_slice.ensures.value ∙ nil_from_length c.as_slice.result.now empty in
    let staying = staying_from_none c.args.design.now c.in_ok-staying.staying.items c.in_ok-staying.ensures none in
    let suited : AreSuited c.args.design.now = rw c.in-None.is at c.in_ok-unsuited.ensures in
    IfErr-weaker c.take_all.result _ _ (λ fault f. refusal_of c.args.design.now fault staying suited c.requires.illegal f) c.take_all.ensures.refused
