use Rattle.std.proofs.Common.{take, All}
use Rattle.leg_lib_records.specs.Records.{MasterPinModel}
use Rattle.leg_flat.specs.ProperLibrary.{AreProperShapes}
use Rattle.leg_flat.proofs.proper.pins_are_proper.Given as goal

abbrev pub invariant-loop-pin : goal.invariant-loop-pin
invariant-loop-pin g l = All (λ (pin : MasterPinModel). AreProperShapes pin.shapes) (take l.pin-index l.pins)
