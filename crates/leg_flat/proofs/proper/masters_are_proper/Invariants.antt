use Rattle.std.proofs.Common.{take, All}
use Rattle.leg_flat.specs.ProperLibrary.{IsProperMaster}
use Rattle.leg_flat.proofs.proper.masters_are_proper.Given as goal

abbrev pub invariant-loop-master : goal.invariant-loop-master
invariant-loop-master g l = All IsProperMaster (take l.master-index l.masters)
