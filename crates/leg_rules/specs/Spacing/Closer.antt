-- Shapes that are nearer than a distance (lefdef's own rule).
use Rattle.std.specs.Prelude.{◌⊎◌, ℕ}
use Rattle.leg_geom.specs.Plane.{SharePoint}
use Rattle.leg_rules.specs.declared.shape.Shape.{Shape}
use Rattle.leg_rules.specs.Spacing.Comparable.{AreComparable}
use Rattle.leg_rules.specs.Spacing.Violations.{AreNearer}

-- two comparable shapes share a point, or lie nearer than this
pub record AreCloserThan (distance : ℕ) (a b : Shape) : Type 0 where
  pub comparable : AreComparable a b
  pub close : SharePoint a.rect b.rect ⊎ AreNearer distance a.rect b.rect
