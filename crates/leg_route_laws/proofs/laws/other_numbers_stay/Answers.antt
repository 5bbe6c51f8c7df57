use Rattle.leg_route_laws.proofs.GrownNumbers.{same_numbers}
use Rattle.leg_route_laws.proofs.laws.other_numbers_stay.Goals as goal

pub returns : goal.returns
returns c = λ design net other wires before after numbers grows differ are. same_numbers design net wires before after grows other numbers differ are
