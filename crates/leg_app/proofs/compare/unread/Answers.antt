use Rattle.std.proofs.Common.{◌∙◌, ap, sym}
use Rattle.std.proofs.lemmas.Result.{IfOk-weaker}
use Rattle.leg_app.specs.Reason.{needed_master}
use Rattle.leg_app.specs.Comparison.{def_of}
use Rattle.leg_app.proofs.Denotations.{no_design}
use Rattle.leg_app.proofs.compare.unread.Goals as goal

pub returns : goal.returns
returns g c =
    let library = c.args.library.now in
    IfOk-weaker c.refusal.result _ _
    (λ answer all profile lefs before after just none. all profile lefs before after
    (λ not_memory. no_design profile lefs (def_of c.args.side before after) library just (none (λ is. not_memory (c.behind_lefs.ensures.kind ∙ is))))
    tt
    (λ not_memory other say. c.in_ok-master.ensures
    ∙ (ap (λ l. needed_master l c.args.fault.need) (sym (just.only other say)) ∙ ap (λ need. needed_master other need) (sym c.behind_lefs.ensures.need))))
    c.refusal.ensures
