use Rattle.leg_app.proofs.OneComparison.{one_comparison}
use Rattle.leg_app.proofs.laws.comparison_has_one_answer.Goals as goal

pub returns : goal.returns
returns c =
    λ profile lefs before after. one_comparison profile lefs before after (c.texts_say_one_design.ensures profile lefs before)
    (c.texts_say_one_design.ensures profile lefs after)
