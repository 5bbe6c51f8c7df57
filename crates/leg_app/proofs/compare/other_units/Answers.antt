use Rattle.std.proofs.Common.{map, sym, ◌∙◌}
use Rattle.std.proofs.lemmas.Result.{IfOk-weaker}
use Rattle.leg_grammar.specs.Texts.{DenoteNothing}
use Rattle.leg_app.specs.Steps.OneLibrary.{DenoteNoLibrary}
use Rattle.leg_app.proofs.AnswerLemmas.{refuses_weaker, master_of_none}
use Rattle.leg_app.proofs.Denotations.{nothing_under}
use Rattle.leg_app.proofs.compare.other_units.Goals as goal

pub returns-in-Ok : goal.returns-in-Ok
returns-in-Ok g c =
    let profile = c.args.profile in
    let lefs = map (λ t. t.now) c.args.lefs.now in
    let after = c.args.after.now in
    let said = c.in-Ok.ensures in
    let found = said.found in
    IfOk-weaker c.other_library.result _ _
    (λ answer all before first say apart. all lefs before c.args.library.now first say
    (λ same. apart found.units found.unit (sym (same ∙ found.scaled.units)))
    (record { found = found; only = said.only }))
    (rw said.text at c.other_library.ensures)

pub returns-in-Err : goal.returns-in-Err
returns-in-Err g c =
    let profile = c.args.profile in
    let lefs = map (λ t. t.now) c.args.lefs.now in
    let after = c.args.after.now in
    let fault = c.in-Err.fault in
    let none = c.in-Err.ensures.none in
    IfOk-weaker c.refusal.result _ _
    (λ answer all before first say apart. all profile lefs before after
    (refuses_weaker {nothing = DenoteNoLibrary profile lefs after} {other = DenoteNothing profile lefs after} {much = ⊥} {more = ⊥} fault
    (nothing_under profile lefs after)
    (λ much. much) none) c.in-Err.ensures.units (master_of_none profile lefs after fault none))
    c.refusal.ensures
