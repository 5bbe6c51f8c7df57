-- Entries of nets that lose their last wires.
use Rattle.std.specs.Prelude.{ℕ, List, take}
use Rattle.leg_design_records.specs.Records.{NetModel}
use Rattle.leg_design_records.specs.MoreWires.{each_with}

-- the entries in their order, each with a given number of its first wires
abbrev pub with_first_wires : List NetModel → List ℕ → List NetModel
with_first_wires nets counts = each_with (λ (net : NetModel) (count : ℕ). record net { wires = take count net.wires }) nets counts
