-- The laws of flats that grow, as they are cited here.
use Rattle.std.proofs.Common.{◌≡◌, ◌≢◌, ◌↔◌, ◌≤ℤ◌, ℕ, ℤ, pos, List, ◌++◌, All, length}
use Rattle.leg_geom.specs.Plane.{PointModel}
use Rattle.leg_lib_records.specs.Scale.{IsEven}
use Rattle.leg_design_records.specs.declared.fault.Fault.{Fault}
use Rattle.leg_design_records.specs.declared.records.Wire.{Wire}
use Rattle.leg_design_records.specs.declared.records.Wire.TheVariants.{Segment}
use Rattle.leg_design_records.specs.Records.{DesignModel}
use Rattle.leg_rules.specs.Placement.Violations.{IsPlacementViolation}
use Rattle.leg_rules.specs.Metal.Metal.{metal_of}
use Rattle.leg_rules.specs.Metal.Flat.{FlatModel, IsFlatOf}
use Rattle.leg_route_laws.specs.Growth.{AddedWire, Grows, of_net}
use Rattle.leg_route_laws.specs.CleanWire.{HasNoSpacingFault, IsCleanWire}
use Rattle.leg_route_laws.specs.Lines.{EachStep, last_spot, AreInLine}
use Rattle.leg_route_laws.specs.FinishedDesign.{finished, AreByNet, IsFinishedFrom}
use Rattle.leg_rules.specs.Violations.{IsViolationIn}
use Rattle.leg_rules.specs.Joins.Violations.{IsOpenNet}

abbrev pub RunOfCleanWires : Type 0
RunOfCleanWires =
    (design : DesignModel) (flat : FlatModel) (net layer : ℕ) (width reach : ℤ) (from : PointModel) (spots : List PointModel)
    → IsEven width → pos 0 ≤ℤ reach → AreInLine from spots → from ≢ last_spot from spots → EachStep (λ a b. a ≢ b) from spots
    → EachStep (λ a b. IsCleanWire design flat net (Segment layer a b width reach reach)) from spots
    → IsCleanWire design flat net (Segment layer from (last_spot from spots) width reach reach)

abbrev pub CleanWiresStay : Type 0
CleanWiresStay =
    (design : DesignModel) (net : ℕ) (wires : List Wire) (old new : FlatModel)
    → HasNoSpacingFault design.library old → All (IsCleanWire design old net) wires → Grows design (of_net net wires) old new
    → HasNoSpacingFault design.library new

abbrev pub GrowthGoesOn : Type 0
GrowthGoesOn =
    (design : DesignModel) (first then : List AddedWire) (before between after : FlatModel)
    → Grows design first before between → Grows design then between after → Grows design (first ++ then) before after

abbrev pub FinishedIsLegal : Type 0
FinishedIsLegal =
    (design : DesignModel) (added : List AddedWire) (grown : FlatModel) (lists : List (List Wire)) (end : FlatModel)
    → IsFinishedFrom design added grown lists end
    → ((fault : Fault) → ¬ IsPlacementViolation design fault) → HasNoSpacingFault design.library grown → ((n : ℕ) → ¬ IsOpenNet design grown n)
    → (fault : Fault) → ¬ IsViolationIn (finished design lists) end fault

abbrev pub PlacementStays : Type 0
PlacementStays =
    (design : DesignModel) (lists : List (List Wire)) (fault : Fault)
    → IsPlacementViolation design fault ↔ IsPlacementViolation (finished design lists) fault

abbrev pub ShapesStayAsMany : Type 0
ShapesStayAsMany =
    (design : DesignModel) (flat grown : FlatModel) (added : List AddedWire) (lists : List (List Wire))
    → IsFlatOf design flat → Grows design added flat grown → AreByNet (length design.nets) added lists
    → length (metal_of (finished design lists)) ≡ length grown.shapes
