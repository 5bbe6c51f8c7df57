use Rattle.std.proofs.Common.{sym, ◌∙◌}
use Rattle.std.proofs.lemmas.List.{take_rest}
use Rattle.leg_app_message.proofs.Forms.{from_later}
use Rattle.leg_app_message.proofs.scaling.from_form.Goals as goal

pub loop-start-preserved : goal.loop-start-preserved
loop-start-preserved c =
    from_later c.args.name.now c.args.words.now c.loop-start.start (sym (rw take_rest at c.begins_form.ensures) ∙ c.if-begins_form.false) c.loop-start-test.true
    ∙ c.loop-start.invariant
