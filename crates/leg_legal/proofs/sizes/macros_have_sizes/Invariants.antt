use Rattle.std.proofs.Common.{take, All}
use Rattle.leg_lib_records.specs.Measure.{IsExtent}
use Rattle.leg_lib_records.specs.Records.{MasterModel}
use Rattle.leg_legal.proofs.sizes.macros_have_sizes.Given as goal

abbrev pub invariant-loop-master : goal.invariant-loop-master
invariant-loop-master g l = All (λ (master : MasterModel). IsExtent master.size) (take l.master-index l.masters)
