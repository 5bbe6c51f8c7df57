-- Wires that are segments.
use Rattle.std.specs.Prelude.{Option, None, Some}
use Rattle.leg_design_records.specs.declared.records.Wire.{Wire}
use Rattle.leg_drc.specs.Wires.{IsSegment}

-- there is a wire, and it is a segment
abbrev pub IsSegmentAt : Option Wire → Type 0
IsSegmentAt None = ⊥
IsSegmentAt (Some wire) = IsSegment wire
