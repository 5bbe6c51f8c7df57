-- Wires that are laid out in a flat, and what is judged of it.
use Rattle.std.specs.Prelude.{◌≡◌, ◌≢◌, ◌≤◌, ℕ, List, [], ◌++◌, false, All, length, Some, slice_get, slice_set}
use Rattle.leg_design_records.specs.declared.limits.TheConstants.{PART_LIMIT}
use Rattle.leg_design_records.specs.declared.records.Wire.{Wire}
use Rattle.leg_design_records.specs.Records.{DesignModel}
use Rattle.leg_design_records.specs.WellFormedNets.{IsWire}
use Rattle.leg_rules.specs.Metal.Flat.{FlatModel}
use Rattle.leg_rules.specs.Joins.Violations.{IsOpenNet}
use Rattle.leg_route_laws.specs.CleanWire.{HasNoSpacingFault}
use Rattle.leg_route_laws.specs.FinishedDesign.{AreByNet}
use Rattle.leg_route_laws.specs.Growth.{AddedWire, Grows, of_net}
use Rattle.leg_rules.specs.Finish.Refusal.{ComesToSearch}
use Rattle.leg_rules.specs.Finish.Wires.{AreWiresOfWalks}

-- the flat has no shorts and no shapes too near one another, and no net of the design is open in it
pub record HasNoMetalFault (design : DesignModel) (flat : FlatModel) : Type 0 where
  pub spacing : HasNoSpacingFault design.library flat
  pub joined : (n : ℕ) → ¬ IsOpenNet design flat n

-- The second flat is the first one that grew by wires of walks over the grid, which DEF can spell, and the lists have these wires, one
-- list for each entry of NETS. Only nets that were open got some.
pub record IsLaidOut (design : DesignModel) (before after : FlatModel) (lists : List (List Wire)) : Type 0 where
  pub added : List AddedWire
  pub grows : Grows design added before after
  pub by_net : AreByNet (length design.nets) added lists
  pub walks : All (AreWiresOfWalks design) lists
  pub spelled : All (All (IsWire design.library design.vias false)) lists
  pub open_only : (n : ℕ) (wires : List Wire) → slice_get lists n ≡ Some wires → wires ≢ [] → IsOpenNet design before n

-- one net more: the flat grew by wires of walks of it, which its list has after those that it had
pub record IsMoreLaid (design : DesignModel) (net : ℕ) (before after : FlatModel) (lists more : List (List Wire)) : Type 0 where
  pub had : List Wire
  pub wires : List Wire
  pub there : slice_get lists net ≡ Some had
  pub is : more ≡ slice_set lists net (had ++ wires)
  pub walks : AreWiresOfWalks design wires
  pub spelled : All (IsWire design.library design.vias false) wires
  pub grows : Grows design (of_net net wires) before after

-- The design comes to the search, and wires are laid out with which nothing is wrong with its metal, which keeps the limit of shapes.
pub record AreFinishing (design : DesignModel) (lists : List (List Wire)) : Type 0 where
  pub flat : FlatModel
  pub comes : ComesToSearch design flat
  pub grown : FlatModel
  pub laid : IsLaidOut design flat grown lists
  pub within : length grown.shapes ≤ PART_LIMIT
  pub no_fault : HasNoMetalFault design grown
