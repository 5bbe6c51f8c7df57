use Rattle.std.proofs.Common.{take}
use Rattle.leg_lib_records.specs.Scale.{IsPinAt, OneForOne}
use Rattle.leg_lib_records.proofs.scale_shapes.pins_at.Given as goal

abbrev pub invariant-loop-pin : goal.invariant-loop-pin
invariant-loop-pin g l = OneForOne (IsPinAt l.n l.shift) (take l.pin-index l.raw) l.pins.items
