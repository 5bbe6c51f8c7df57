use Rattle.leg_route.proofs.RunFacts.{was_open_first}
use Rattle.leg_route.proofs.laws.open_nets_were_open.Goals as goal

pub returns : goal.returns
returns c = was_open_first
