-- Sizes and rectangles: in millionths of a micron as texts write them, and in database units.
use Rattle.std.specs.Prelude.{ℤ, pos, ◌<ℤ◌, ◌&&◌, int_lt, if◌then◌else◌, Option, None, Some}
use Rattle.std.specs.Int.{int_min, int_max}
use Rattle.leg_lex.specs.Number.{IsNumber}
use Rattle.leg_geom.specs.Plane.{PointModel, RectModel}

-- a width and a height
pub record ExtentModel : Type 0 where
  pub width : ℤ
  pub height : ℤ

-- both are above 0
pub record HasArea (e : ExtentModel) : Type 0 where
  pub wide : pos 0 <ℤ e.width
  pub high : pos 0 <ℤ e.height

-- a size in database units has area and is within the limit of numbers
pub record IsExtent (e : ExtentModel) : Type 0 where
  pub width : IsNumber e.width
  pub height : IsNumber e.height
  pub area : HasArea e

-- a rectangle that texts write has area
pub record IsProper (r : RectModel) : Type 0 where
  pub wide : r.x1 <ℤ r.x2
  pub high : r.y1 <ℤ r.y2

-- the rectangle between two corners, which are in any order
abbrev pub sides_between : PointModel → PointModel → RectModel
sides_between p q = record { x1 = int_min p.x q.x; y1 = int_min p.y q.y; x2 = int_max p.x q.x; y2 = int_max p.y q.y }

-- corners without area between them denote nothing
unfoldable pub rect_between : PointModel → PointModel → Option RectModel
rect_between p q =
    let sides = sides_between p q in
    if int_lt sides.x1 sides.x2 && int_lt sides.y1 sides.y2 then Some sides else None
