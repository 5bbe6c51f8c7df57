use Rattle.std.proofs.Common.{◌∙◌, ap, sym}
use Rattle.std.proofs.lemmas.Result.{IfOk-weaker}
use Rattle.leg_app.specs.Reason.{needed_master}
use Rattle.leg_app.proofs.Denotations.{say_under, no_design}
use Rattle.leg_app.proofs.answer.library_answer.Goals as goal

pub returns-in-Ok : goal.returns-in-Ok
returns-in-Ok g c =
    IfOk-weaker c.design_answer.result _ _ (λ answer all lefs just. all c.args.profile lefs c.args.def
    (say_under c.args.profile lefs c.args.def c.args.library.now c.in-Ok.design just c.in-Ok.ensures.found)) c.design_answer.ensures

pub returns-in_ok-master-in-Err : goal.returns-in_ok-master-in-Err
returns-in_ok-master-in-Err g c =
    let library = c.args.library.now in
    IfOk-weaker c.refusal.result _ _
    (λ answer all lefs just. all c.args.profile lefs c.args.def
    (λ not_memory. no_design c.args.profile lefs c.args.def library just (c.in-Err.ensures.none (λ is. not_memory (c.behind_lefs.ensures.kind ∙ is))))
    tt
    (λ not_memory other say. c.in_ok-master-in-Err.ensures
    ∙ (ap (λ l. needed_master l c.in-Err.fault.need) (sym (just.only other say)) ∙ ap (λ need. needed_master other need) (sym c.behind_lefs.ensures.need))))
    c.refusal.ensures
