-- What the router leaves as it is (lefdef's own rule): all but the wires of `NETS`, where it adds some after those that are there.
use Rattle.std.specs.Prelude.{◌≡◌, List, ◌++◌}
use Rattle.leg_lib_records.specs.Scale.{OneForOne}
use Rattle.leg_design_records.specs.declared.records.Wire.{Wire}
use Rattle.leg_design_records.specs.Records.{NetModel, DesignModel}

-- the entry with some wires more, or none, after its own
pub record IsSameNetButForWires (before after : NetModel) : Type 0 where
  pub more : List Wire
  pub is : after ≡ record before { wires = before.wires ++ more }

-- The designs are equal but for the wires of entries of NETS: each entry has its wires from before, and then those that it
-- got.
pub record IsSameButForWires (before after : DesignModel) : Type 0 where
  pub rest : after ≡ record before { nets = after.nets }
  pub nets : OneForOne IsSameNetButForWires before.nets after.nets
