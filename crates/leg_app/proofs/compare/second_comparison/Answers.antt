use Rattle.std.proofs.Common.{◌∙◌, sym, subst}
use Rattle.std.proofs.lemmas.Result.{IfOk-weaker}
use Rattle.leg_lex.specs.Denotes.{Denotes}
use Rattle.leg_grammar.specs.Def.Form.{design_in}
use Rattle.leg_app.specs.Steps.OneLibrary.{DenotesJust}
use Rattle.leg_app.proofs.Comparisons.{library_of}
use Rattle.leg_app.proofs.compare.second_comparison.Goals as goal

pub comparison-requires : goal.comparison-requires
comparison-requires g c = c.requires ∙ sym (library_of c.args.profile c.args.library.now c.args.after c.in-Ok.second c.in-Ok.ensures.found)

pub returns-in-Ok : goal.returns-in-Ok
returns-in-Ok g c =
    let library = c.args.library.now in
    let first = c.args.first.now in
    let second = c.in-Ok.second in
    let after = c.args.after in
    let same = sym c.requires in
    IfOk-weaker c.comparison.result _ _
    (λ answer all lefs before just says just_after. all c.args.profile lefs before after
    (subst (λ l. DenotesJust c.args.profile lefs before l) same just)
    (subst (λ l. Denotes (design_in c.args.profile l) before first) same says)
    (subst (λ l. DenotesJust c.args.profile lefs after l) same just_after)
    (subst (λ l. Denotes (design_in c.args.profile l) after second) same c.in-Ok.ensures.found))
    c.comparison.ensures

pub returns-in-Err : goal.returns-in-Err
returns-in-Err g c =
    IfOk-weaker c.unread.result _ _ (λ answer all lefs before just says just_after. all c.args.profile lefs before c.args.after just_after
    c.in-Err.ensures.none)
    c.unread.ensures
