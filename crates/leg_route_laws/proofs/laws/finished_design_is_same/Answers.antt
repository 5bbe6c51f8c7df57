use Rattle.leg_route_laws.proofs.SameButFor.{same_but_for_wires}
use Rattle.leg_route_laws.proofs.FewWires.{few_wires}
use Rattle.leg_route_laws.proofs.laws.finished_design_is_same.Goals as goal

pub returns : goal.returns
returns c = record { same = same_but_for_wires; wires = few_wires c.good_vias_join_layers.ensures.joined }
