use Rattle.leg_lib_records.proofs.JoinLayers.{TwoSoFar}
use Rattle.leg_lib_records.proofs.joins.third_layer.Given as goal

abbrev pub invariant-loop-part : goal.invariant-loop-part
invariant-loop-part l = TwoSoFar l.parts l.part-index l.low l.high
