use Rattle.leg_compare.proofs.GrownNets.{wires_differ}
use Rattle.leg_compare.proofs.laws.routed_design_differs_in_wires.Goals as goal

pub returns : goal.returns
returns c = wires_differ
