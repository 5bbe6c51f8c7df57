use Rattle.leg_route_laws.proofs.Placement.{placement_then, placement_before}
use Rattle.leg_route_laws.proofs.laws.placement_stays.Goals as goal

pub returns : goal.returns
returns c = λ design lists fault. (placement_then design lists fault, placement_before design lists fault)
