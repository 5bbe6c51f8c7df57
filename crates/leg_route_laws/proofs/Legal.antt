-- A finished design is legal where the grown flat is.
use Rattle.std.proofs.Common.{◌↔◌, ℕ, List, inl, inr, arith}
use Rattle.leg_lib_records.specs.Records.{LibraryModel}
use Rattle.leg_design_records.specs.declared.fault.Fault.{Fault}
use Rattle.leg_design_records.specs.declared.fault.Fault.TheVariants.{Short, TooNear}
use Rattle.leg_design_records.specs.declared.records.Wire.{Wire}
use Rattle.leg_design_records.specs.Records.{DesignModel}
use Rattle.leg_rules.specs.Placement.Violations.{IsPlacementViolation}
use Rattle.leg_rules.specs.Metal.Flat.{FlatModel}
use Rattle.leg_rules.specs.Spacing.Violations.IsSpacingViolation.{short, too_near}
use Rattle.leg_rules.specs.Joins.Violations.IsOpenViolation.{open_net}
use Rattle.leg_route_laws.specs.Growth.{AddedWire}
use Rattle.leg_route_laws.specs.CleanWire.{HasNoSpacingFault}
use Rattle.leg_route_laws.specs.FinishedDesign.{finished, IsFinishedFrom}
use Rattle.leg_rules.specs.Violations.{IsViolationIn}
use Rattle.leg_route_laws.specs.Violations.{HasShort, HasTooNear}
use Rattle.leg_rules.specs.Joins.Violations.{IsOpenNet, IsOpenViolation}
use Rattle.leg_route_laws.proofs.SameNets.{same_count}
use Rattle.leg_route_laws.proofs.SameShapes.{alike_back, HaveLikes, short_there, near_there}
use Rattle.leg_route_laws.proofs.NetMetal.{MetalHasItsPiece, PieceHasItsMetal}
use Rattle.leg_route_laws.proofs.LikeShapes.{goes_on, comes_back}
use Rattle.leg_route_laws.proofs.OpenNets.{JoinedBothWays, JoinedOnward, none_then}
use Rattle.leg_route_laws.proofs.Placement.{placement_before}

-- no fault in a flat, none in one of whose shapes each has its like there
no_fault_there : (library : LibraryModel) (first second : FlatModel) → HaveLikes second.shapes first.shapes → HasNoSpacingFault library first
    → HasNoSpacingFault library second
no_fault_there library first second likes none fault (short {i = i} {j = j} pair) =
    let has = short_there library second first likes (i, j, short pair) in none (Short has.0 has.1) has.2
no_fault_there library first second likes none fault (too_near {i = i} {j = j} pair) =
    let has = near_there library second first likes (i, j, too_near pair) in none (TooNear has.0 has.1) has.2

module _ (metal_has : MetalHasItsPiece) (piece_has : PieceHasItsMetal) (design : DesignModel) (added : List AddedWire) (grown : FlatModel)
    (lists : List (List Wire)) (end : FlatModel) (from : IsFinishedFrom design added grown lists end) where
  likes_then : HaveLikes grown.shapes end.shapes
  likes_then s there = let goes = goes_on metal_has piece_has design added grown lists end from s there in (goes.0, goes.1, goes.2.alike)

  likes_before : HaveLikes end.shapes grown.shapes
  likes_before t there =
      let comes = comes_back metal_has piece_has design added grown lists end from t there in
      (comes.0, comes.1, alike_back comes.0 t comes.2.alike)

  pub same_shorts : (library : LibraryModel) → HasShort library grown ↔ HasShort library end
  same_shorts library = (short_there library grown end likes_then, short_there library end grown likes_before)

  pub same_near : (library : LibraryModel) → HasTooNear library grown ↔ HasTooNear library end
  same_near library = (near_there library grown end likes_then, near_there library end grown likes_before)

  pub is_legal : JoinedBothWays → JoinedOnward → ((fault : Fault) → ¬ IsPlacementViolation design fault) → HasNoSpacingFault design.library grown
      → ((n : ℕ) → ¬ IsOpenNet design grown n) → (fault : Fault) → ¬ IsViolationIn (finished design lists) end fault
  is_legal back onward places shapes nets fault holds =
      elim holds [
        | inl placed ↦ places fault (placement_before design lists fault placed)
        | inr metal ↦ elim metal [
          | inl spaced ↦ no_fault_there design.library grown end likes_before shapes fault spaced
          | inr opened ↦ none_open fault opened
        ]
      ] where
        none_open : (fault : Fault) → ¬ IsOpenViolation (finished design lists) end fault
        none_open fault (open_net {n = n} {k = k} h) =
            none_then metal_has piece_has back onward design added grown lists end from n (omega (arith, h.net, same_count design lists)) (nets n) (k, h)
