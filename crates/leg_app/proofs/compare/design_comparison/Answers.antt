use Rattle.std.proofs.Common.{map, sym, ◌∙◌, subst}
use Rattle.std.proofs.lemmas.Result.{IfOk-weaker}
use Rattle.leg_lex.specs.Denotes.{Denotes}
use Rattle.leg_lex.proofs.Denotations.{says_one}
use Rattle.leg_grammar.specs.Def.Header.{units_in}
use Rattle.leg_app.proofs.Denotations.{no_units, nothing_under}
use Rattle.leg_app.proofs.Comparisons.{say_design, just_other}
use Rattle.leg_app.proofs.compare.design_comparison.Goals as goal

pub returns-then-units : goal.returns-then-units
returns-then-units g c =
    let profile = c.args.profile in
    let lefs = map (λ t. t.now) c.args.lefs.now in
    let library = c.args.library.now in
    let after = c.args.after.now in
    let same = c.if-units.true ∙ c.units.ensures in
    IfOk-weaker c.second_comparison.result _ _
    (λ answer all before just says. all lefs before just says
    (just_other profile lefs before after library (subst (Denotes units_in after) same c.in-Ok.ensures.units) just))
    (rw c.in-Ok.ensures.text at c.second_comparison.ensures)

pub returns-in-Ok : goal.returns-in-Ok
returns-in-Ok g c =
    let profile = c.args.profile in
    let lefs = map (λ t. t.now) c.args.lefs.now in
    let library = c.args.library.now in
    let after = c.args.after.now in
    IfOk-weaker c.other_units.result _ _
    (λ answer all before just says. all before c.args.first.now (say_design profile lefs before library c.args.first.now just says)
    (λ units said is. c.if-units.false (says_one units_in after c.in-Ok.units units c.in-Ok.ensures.units said ∙ (is ∙ sym c.units.ensures))))
    c.other_units.ensures

pub returns : goal.returns
returns g c =
    let profile = c.args.profile in
    let lefs = map (λ t. t.now) c.args.lefs.now in
    let after = c.args.after.now in
    IfOk-weaker c.refusal.result _ _
    (λ answer all before just says. all profile lefs before after
    (λ not_memory. nothing_under profile lefs after (no_units profile lefs after (c.in-Err.ensures.none (λ is. not_memory (c.behind_lefs.ensures.kind ∙ is)))))
    tt
    (λ not_memory library say. absurd (no_units profile lefs after (c.in-Err.ensures.none (λ is. not_memory (c.behind_lefs.ensures.kind ∙ is))) library say)))
    c.refusal.ensures
