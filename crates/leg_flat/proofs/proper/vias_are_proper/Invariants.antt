use Rattle.std.proofs.Common.{take, All}
use Rattle.leg_lib_records.specs.Records.{ViaModel}
use Rattle.leg_flat.specs.ProperLibrary.{AreProperShapes}
use Rattle.leg_flat.proofs.proper.vias_are_proper.Given as goal

abbrev pub invariant-loop-via : goal.invariant-loop-via
invariant-loop-via g l = All (λ (via : ViaModel). AreProperShapes via.shapes) (take l.via-index l.vias)
