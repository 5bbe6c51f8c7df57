use Rattle.leg_route_laws.proofs.GrownNumbers.{grown_numbers}
use Rattle.leg_route_laws.proofs.laws.own_numbers_grow.Goals as goal

pub returns : goal.returns
returns c = λ design net wires before after numbers grows are. grown_numbers design net wires before after grows numbers are
