-- What is not legal about the placement of components (lefdef's own rules): without a place, outside the die, off the sites of the
-- rows, overlapping, and in a placement blockage. A component is the box of its macro, whose unit squares count.
use Rattle.std.specs.Prelude.{◌≡◌, ℕ, ◌<◌, None, Some, Contains, slice_get}
use Rattle.leg_geom.specs.Plane.{PointModel, RectModel, HasSquare, ShareSquare}
use Rattle.leg_design_records.specs.Records.{DesignModel, placement_rects}
use Rattle.leg_design_records.specs.Movable.{IsMovable}
use Rattle.leg_design_records.specs.declared.records.Component.{Component}
use Rattle.leg_design_records.specs.declared.fault.Fault.{Fault}
use Rattle.leg_design_records.specs.declared.fault.Fault.TheVariants.{Unplaced, Outside, OffSite, Overlap, Blocked}
use Rattle.leg_rules.specs.Placement.Box.{HasBox}
use Rattle.leg_rules.specs.Placement.Sites.{IsOffSite}

-- component c has no place
pub record IsUnplaced (design : DesignModel) (c : ℕ) : Type 0 where
  pub component : Component
  pub there : slice_get design.components c ≡ Some component
  pub unplaced : component.place ≡ None

-- a unit square of the placed component c isn't one of the die
pub record IsOutside (design : DesignModel) (c : ℕ) : Type 0 where
  pub box : RectModel
  pub stands : HasBox design c box
  pub square : PointModel
  pub inside : HasSquare box square
  pub outside : ¬ HasSquare design.die square

-- two placed components share a unit square; the lower number is given first
pub record DoOverlap (design : DesignModel) (a b : ℕ) : Type 0 where
  pub in_order : a < b
  pub box_a : RectModel
  pub box_b : RectModel
  pub stands_a : HasBox design a box_a
  pub stands_b : HasBox design b box_b
  pub shared : ShareSquare box_a box_b

-- component c, which may be moved, has a place where it shares a unit square with a rectangle of a placement blockage
pub record IsBlocked (design : DesignModel) (c : ℕ) : Type 0 where
  pub movable : IsMovable design c
  pub box : RectModel
  pub stands : HasBox design c box
  pub rect : RectModel
  pub blocks : Contains (placement_rects design.blockages) rect
  pub shared : ShareSquare box rect

-- a violation of placement holds
pub data IsPlacementViolation (design : DesignModel) : Fault → Type 0 where
  unplaced : {c : ℕ} → IsUnplaced design c → IsPlacementViolation design (Unplaced c)
  outside : {c : ℕ} → IsOutside design c → IsPlacementViolation design (Outside c)
  off_site : {c : ℕ} → IsOffSite design c → IsPlacementViolation design (OffSite c)
  overlap : {a b : ℕ} → DoOverlap design a b → IsPlacementViolation design (Overlap a b)
  blocked : {c : ℕ} → IsBlocked design c → IsPlacementViolation design (Blocked c)

-- no violation of placement holds
abbrev pub IsLegallyPlaced : DesignModel → Type 0
IsLegallyPlaced design = (fault : Fault) → ¬ IsPlacementViolation design fault
