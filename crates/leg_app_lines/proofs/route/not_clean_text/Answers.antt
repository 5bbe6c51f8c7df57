use Rattle.std.proofs.lemmas.Result.{IfOk-weaker}
use Rattle.leg_flat.proofs.OneFlat.{one_flat}
use Rattle.leg_app_lines.proofs.route.not_clean_text.Goals as goal

pub returns : goal.returns
returns g c =
    IfOk-weaker c.shown_text.result _ _
    (λ text is flat is_flat. (let same = one_flat c.args.design.now c.in_ok-flat.flat flat c.in_ok-flat.ensures is_flat in rw (← same) is))
    c.shown_text.ensures
