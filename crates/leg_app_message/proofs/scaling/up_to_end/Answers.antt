use Rattle.std.proofs.Common.{sym, ◌∙◌}
use Rattle.std.proofs.lemmas.List.{take_rest}
use Rattle.leg_app_message.proofs.Forms.{end_later}
use Rattle.leg_app_message.proofs.scaling.up_to_end.Goals as goal

pub loop-end-preserved : goal.loop-end-preserved
loop-end-preserved c =
    end_later c.args.name.now c.args.words.now c.loop-end.end (sym (rw take_rest at c.ends_form.ensures) ∙ c.if-ends_form.false) c.loop-end-test.true
    ∙ c.loop-end.invariant
