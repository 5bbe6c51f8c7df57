-- Wires whose metal is clean in a flat.
use Rattle.std.specs.Prelude.{◌↔◌, ℕ, Contains}
use Rattle.leg_geom.specs.Plane.{PointModel, RectModel, HasPoint}
use Rattle.leg_lib_records.specs.Records.{LibraryModel}
use Rattle.leg_design_records.specs.declared.fault.Fault.{Fault}
use Rattle.leg_design_records.specs.declared.records.Wire.{Wire}
use Rattle.leg_design_records.specs.Records.{DesignModel}
use Rattle.leg_rules.specs.Metal.Outline.{Outline, HasPointOf}
use Rattle.leg_rules.specs.Metal.Metal.{OnLayer, wire_outlines}
use Rattle.leg_rules.specs.Metal.Flat.{FlatModel}
use Rattle.leg_rules.specs.Spacing.Violations.{IsSpacingViolation}
use Rattle.leg_rules.specs.Spacing.Clean.{IsClean}

-- no two shapes of the flat are short or too near one another
abbrev pub HasNoSpacingFault : LibraryModel → FlatModel → Type 0
HasNoSpacingFault library flat = (fault : Fault) → ¬ IsSpacingViolation library flat fault

-- the rectangle has exactly the points of the outline
abbrev pub IsRectOf : Outline → RectModel → Type 0
IsRectOf outline rect = (p : PointModel) → HasPoint rect p ↔ HasPointOf outline p

-- Each piece of metal of the wire is clean as metal of this net: the rectangle that has exactly its points.
abbrev pub IsCleanWire : DesignModel → FlatModel → ℕ → Wire → Type 0
IsCleanWire design flat net wire =
    (metal : OnLayer) (rect : RectModel) → Contains (wire_outlines design wire) metal → IsRectOf metal.outline rect
    → IsClean design.library flat net metal.layer rect

-- a rectangle that is clean and has every point of the outline
pub record HasCleanRect (library : LibraryModel) (flat : FlatModel) (net layer : ℕ) (outline : Outline) : Type 0 where
  pub rect : RectModel
  pub covers : (p : PointModel) → HasPointOf outline p → HasPoint rect p
  pub clean : IsClean library flat net layer rect

-- the point lies in a rectangle that is clean
pub record LiesInClean (library : LibraryModel) (flat : FlatModel) (net layer : ℕ) (p : PointModel) : Type 0 where
  pub rect : RectModel
  pub clean : IsClean library flat net layer rect
  pub inside : HasPoint rect p
