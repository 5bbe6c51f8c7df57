-- The points of a piece of metal, in database units (LEF/DEF 5.8, "Component orientation", "Regular Wiring Statement",
-- "Special Wiring Statement"; how a wire ends is lefdef's own rule).
use Rattle.std.specs.Prelude.{◌≡◌, ◌⊎◌, ℤ, pos, ◌*◌, ◌-ℤ◌, ◌≤ℤ◌, int_lt, if◌then◌else◌, unsigned_abs}
use Rattle.leg_geom.specs.Plane.{PointModel, RectModel, HasPoint}
use Rattle.leg_geom.specs.Orientation.{placed, moved, ComesFrom}
use Rattle.leg_geom.specs.declared.place.Place.{Place}
use Rattle.leg_lib_records.specs.Measure.{ExtentModel}

-- what metal is drawn as: a rectangle of a box of this size, which is at a place; a line between two points, with a
-- width and how far it reaches beyond each; a rectangle given from a point; or a rectangle
pub data Outline : Type 0 where
  Drawn : Place → ExtentModel → RectModel → Outline
  Line : PointModel → PointModel → ℤ → ℤ → ℤ → Outline
  Shifted : PointModel → RectModel → Outline
  Rectangle : RectModel → Outline

-- how far z lies beyond the end a of a line from a to b, away from b
abbrev pub beyond : ℤ → ℤ → ℤ → ℤ
beyond a b z = if int_lt a b then a -ℤ z else z -ℤ a

-- along a line from a to b, z is beyond neither end by more than that end's extension
pub record IsAlong (a b ext_a ext_b z : ℤ) : Type 0 where
  pub from : beyond a b z ≤ℤ ext_a
  pub to : beyond b a z ≤ℤ ext_b

-- across a line, z is at most half its width away
abbrev pub IsAcross : ℤ → ℤ → ℤ → Type 0
IsAcross line width z = pos (2 * unsigned_abs (z -ℤ line)) ≤ℤ width

-- the point of a horizontal line with its width and extensions
pub record IsOfHorizontal (from to : PointModel) (width ext_from ext_to : ℤ) (p : PointModel) : Type 0 where
  pub level : from.y ≡ to.y
  pub along : IsAlong from.x to.x ext_from ext_to p.x
  pub across : IsAcross from.y width p.y

-- the point of a vertical one
pub record IsOfVertical (from to : PointModel) (width ext_from ext_to : ℤ) (p : PointModel) : Type 0 where
  pub upright : from.x ≡ to.x
  pub along : IsAlong from.y to.y ext_from ext_to p.y
  pub across : IsAcross from.x width p.x

-- The points of an outline.
abbrev pub HasPointOf : Outline → PointModel → Type 0
HasPointOf (Drawn place size rect) p = ComesFrom (placed place.at place.orient size.width size.height) rect p
HasPointOf (Line from to width ext_from ext_to) p =
    IsOfHorizontal from to width ext_from ext_to p ⊎ IsOfVertical from to width ext_from ext_to p
HasPointOf (Shifted at rect) p = ComesFrom (moved at) rect p
HasPointOf (Rectangle rect) p = HasPoint rect p
