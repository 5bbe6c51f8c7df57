-- The design that got the wires that were laid out and judged.
use Rattle.std.proofs.Common.{◌≡◌, ◌↔◌, ◌+◌, ◌≤◌, ℕ, List, false, All, length, sum_by, inl, inr, arith}
use Rattle.leg_lib_records.specs.Sound.{IsSound}
use Rattle.leg_rules.specs.Placement.Violations.{IsPlacementViolation}
use Rattle.leg_design_records.specs.declared.fault.Fault.{Fault}
use Rattle.leg_design_records.specs.declared.limits.TheConstants.{PART_LIMIT}
use Rattle.leg_design_records.specs.declared.records.Wire.{Wire}
use Rattle.leg_design_records.specs.MoreWires.{with_more_wires}
use Rattle.leg_design_records.specs.Records.{DesignModel, wire_count}
use Rattle.leg_design_records.specs.WellFormed.{IsWellFormed}
use Rattle.leg_design_records.specs.WellFormedNets.{IsWire}
use Rattle.leg_rules.specs.Metal.Metal.{metal_of}
use Rattle.leg_rules.specs.Metal.Flat.{FlatModel, IsFlatOf}
use Rattle.leg_rules.specs.Joins.Violations.{IsOpenNet}
use Rattle.leg_rules.specs.Legal.{IsLegal}
use Rattle.leg_rules.specs.Violations.{IsViolationIn, IsViolation}
use Rattle.leg_route_laws.specs.CleanWire.{HasNoSpacingFault}
use Rattle.leg_route_laws.specs.FinishedDesign.{finished, AreByNet, IsFinishedFrom}
use Rattle.leg_route_laws.specs.Growth.{AddedWire, Grows}
use Rattle.leg_finish.specs.Steps.Judgement.{AreFinishing}
use Rattle.leg_finish.proofs.AddedWires.{wires_more}

abbrev pub FinishedIsLegal : Type 0
FinishedIsLegal =
    (design : DesignModel) (added : List AddedWire) (grown : FlatModel) (lists : List (List Wire)) (end : FlatModel)
    → IsFinishedFrom design added grown lists end
    → ((fault : Fault) → ¬ IsPlacementViolation design fault) → HasNoSpacingFault design.library grown → ((n : ℕ) → ¬ IsOpenNet design grown n)
    → (fault : Fault) → ¬ IsViolationIn (finished design lists) end fault

abbrev pub PlacementStays : Type 0
PlacementStays =
    (design : DesignModel) (lists : List (List Wire)) (fault : Fault) → IsPlacementViolation design fault ↔ IsPlacementViolation (finished design lists) fault

abbrev pub ShapesStayAsMany : Type 0
ShapesStayAsMany =
    (design : DesignModel) (flat grown : FlatModel) (added : List AddedWire) (lists : List (List Wire)) → IsFlatOf design flat → Grows design added flat grown
    → AreByNet (length design.nets) added lists → length (metal_of (finished design lists)) ≡ length grown.shapes

abbrev pub WiresHaveShapes : Type 0
WiresHaveShapes =
    (design : DesignModel) (lists : List (List Wire)) → IsSound design.library → IsWellFormed design → All (All (IsWire design.library design.vias false)) lists
    → wire_count (with_more_wires design.nets lists) + wire_count design.special ≤ length (metal_of (finished design lists))

module _ (design : DesignModel) (lists : List (List Wire)) (it : AreFinishing design lists) where
  pub few_shapes : ShapesStayAsMany → length (metal_of (finished design lists)) ≤ PART_LIMIT
  few_shapes stay = rw (stay design it.flat it.grown it.laid.added lists it.comes.clean.judged.is_flat it.laid.grows it.laid.by_net) it.within

  pub few_wires : ShapesStayAsMany → WiresHaveShapes → IsSound design.library → IsWellFormed design
      → wire_count (with_more_wires design.nets lists) + wire_count design.special ≤ PART_LIMIT
  few_wires stay have sound proper = let few = few_shapes stay in let wires = have design lists sound proper it.laid.spelled in omega (arith, few, wires)

  pub few_added : ShapesStayAsMany → WiresHaveShapes → IsSound design.library → IsWellFormed design
      → sum_by (λ (wires : List Wire). length wires) lists ≤ PART_LIMIT
  few_added stay have sound proper =
      let few = few_wires stay have sound proper in
      let more = wires_more design.nets lists it.laid.by_net.one_each in
      omega (arith, few, more)

  module _ (is_legal : FinishedIsLegal) (placement : PlacementStays) (proper : IsWellFormed design) (proper_end : IsWellFormed (finished design lists)) where
    from : (end : FlatModel) → IsFlatOf (finished design lists) end → IsFinishedFrom design it.laid.added it.grown lists end
    from end is_end = record {
      flat = it.flat;
      is_flat = it.comes.clean.judged.is_flat;
      proper = proper;
      grows = it.laid.grows;
      by_net = it.laid.by_net;
      proper_end = proper_end;
      is_end = is_end;
    }

    no_violation : (fault : Fault) → ¬ IsViolation (finished design lists) fault
    no_violation fault holds =
        elim holds [
          | inl placed ↦ it.comes.clean.none fault (inl ((placement design lists fault).1 placed))
          | inr metal ↦
              is_legal design it.laid.added it.grown lists metal.flat (from metal.flat metal.is_flat)
              (λ f placed. it.comes.clean.none f (inl placed)) it.no_fault.spacing
              it.no_fault.joined fault (inr metal.holds)
        ]

    pub legal_then : ShapesStayAsMany → (end : FlatModel) → IsFlatOf (finished design lists) end → IsLegal (finished design lists)
    legal_then stay end is_end = record { flat = end; judged = record { few = few_shapes stay; is_flat = is_end }; none = no_violation }
