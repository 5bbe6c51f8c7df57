-- A design that gets the wires that its flat grew by.
use Rattle.std.specs.Prelude.{◌≡◌, ◌<◌, ℕ, List, All, length, Some, slice_get}
use Rattle.leg_design_records.specs.declared.records.Wire.{Wire}
use Rattle.leg_design_records.specs.MoreWires.{with_more_wires}
use Rattle.leg_design_records.specs.Records.{DesignModel}
use Rattle.leg_design_records.specs.WellFormed.{IsWellFormed}
use Rattle.leg_rules.specs.Metal.Flat.{FlatModel, IsFlatOf}
use Rattle.leg_route_laws.specs.Growth.{AddedWire, Grows, wires_added}

-- The design with the wires of each list after those of one entry of NETS: the first list's for the first entry, and so on.
abbrev pub finished : DesignModel → List (List Wire) → DesignModel
finished design lists = record design { nets = with_more_wires design.nets lists }

-- All the added wires are of the first `count` nets, and each list has those of one of these nets, in their order.
pub record AreByNet (count : ℕ) (added : List AddedWire) (lists : List (List Wire)) : Type 0 where
  pub nets : All (λ (one : AddedWire). one.net < count) added
  pub one_each : length lists ≡ count
  pub each : (net : ℕ) → net < count → slice_get lists net ≡ Some (wires_added net added)

-- A flat of the design grew by wires of entries of NETS. The design got these same wires, each entry its own, and the last
-- flat is that of the design that came of it.
pub record IsFinishedFrom (design : DesignModel) (added : List AddedWire) (grown : FlatModel) (lists : List (List Wire)) (end : FlatModel) : Type 0 where
  pub flat : FlatModel
  pub is_flat : IsFlatOf design flat
  pub proper : IsWellFormed design
  pub grows : Grows design added flat grown
  pub by_net : AreByNet (length design.nets) added lists
  pub proper_end : IsWellFormed (finished design lists)
  pub is_end : IsFlatOf (finished design lists) end
