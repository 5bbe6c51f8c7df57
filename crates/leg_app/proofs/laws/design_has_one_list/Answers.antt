use Rattle.leg_app.proofs.OneAnswer.{one_list_of_design}
use Rattle.leg_app.proofs.laws.design_has_one_list.Goals as goal

pub returns : goal.returns
returns c = one_list_of_design
