-- Shorts, and shapes too near one another (lefdef's own rules; LEF/DEF 5.8, "Layer (Routing)", "Layer (Cut)", on SPACING).
use Rattle.std.specs.Prelude.{◌*◌, ◌<◌, ℕ}
use Rattle.leg_geom.specs.Plane.{PointModel, RectModel, HasPoint, SharePoint}
use Rattle.leg_geom.specs.Gap.{square_distance}
use Rattle.leg_geom.specs.Pairs.{IsPair}
use Rattle.leg_lib_records.specs.Records.{LibraryModel}
use Rattle.leg_design_records.specs.declared.fault.Fault.{Fault}
use Rattle.leg_design_records.specs.declared.fault.Fault.TheVariants.{Short, TooNear}
use Rattle.leg_rules.specs.declared.shape.Shape.{Shape}
use Rattle.leg_rules.specs.Metal.Flat.{FlatModel}
use Rattle.leg_rules.specs.Spacing.Comparable.{AreComparable}
use Rattle.leg_rules.specs.Spacing.RequiredSpacing.{required_spacing}

-- two comparable shapes share a point
pub record AreShort (a b : Shape) : Type 0 where
  pub comparable : AreComparable a b
  pub shared : SharePoint a.rect b.rect

-- some point of the one rectangle and some point of the other lie nearer than this
pub record AreNearer (distance : ℕ) (a b : RectModel) : Type 0 where
  pub p : PointModel
  pub q : PointModel
  pub in_a : HasPoint a p
  pub in_b : HasPoint b q
  pub near : square_distance p q < distance * distance

-- two comparable shapes share no point, and lie nearer than the spacing that is required of them
pub record AreTooNear (library : LibraryModel) (a b : Shape) : Type 0 where
  pub comparable : AreComparable a b
  pub apart : ¬ SharePoint a.rect b.rect
  pub near : AreNearer (required_spacing library a b) a.rect b.rect

-- A violation of two shapes of the flat holds. They are given by their numbers, the lower one first.
pub data IsSpacingViolation (library : LibraryModel) (flat : FlatModel) : Fault → Type 0 where
  short : {i j : ℕ} → IsPair AreShort flat.shapes (i, j) → IsSpacingViolation library flat (Short i j)
  too_near : {i j : ℕ} → IsPair (AreTooNear library) flat.shapes (i, j) → IsSpacingViolation library flat (TooNear i j)
