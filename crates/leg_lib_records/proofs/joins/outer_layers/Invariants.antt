use Rattle.leg_lib_records.proofs.JoinLayers.{OuterSoFar}
use Rattle.leg_lib_records.proofs.joins.outer_layers.Given as goal

abbrev pub invariant-loop-part : goal.invariant-loop-part
invariant-loop-part l = OuterSoFar l.parts l.part-index l.low l.high
