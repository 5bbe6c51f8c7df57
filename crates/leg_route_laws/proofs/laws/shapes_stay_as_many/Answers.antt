use Rattle.leg_route_laws.proofs.MetalCount.{same_shape_count}
use Rattle.leg_route_laws.proofs.laws.shapes_stay_as_many.Goals as goal

pub returns : goal.returns
returns c = λ design flat grown added lists is grows by_net. same_shape_count design lists flat grown added is grows by_net
