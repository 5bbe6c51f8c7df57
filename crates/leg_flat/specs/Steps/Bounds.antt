-- Where the code's own functions draw metal as rectangles: bounds by which each corner is a coordinate (lefdef's own rules).
use Rattle.std.specs.Prelude.{◌≡◌, ◌≢◌, ◌*◌, ◌≤◌, ◌⊎◌, ℤ, pos, ◌≤ℤ◌, ◌<ℤ◌, unsigned_abs}
use Rattle.leg_lex.specs.declared.limits.TheConstants.{NUMBER_LIMIT}
use Rattle.leg_lex.specs.Number.{IsNumber}
use Rattle.leg_geom.specs.Plane.{PointModel, RectModel}
use Rattle.leg_lib_records.specs.Scale.{IsEven}
use Rattle.leg_design_records.specs.WellFormedParts.{IsPosition}

-- two different points on a horizontal or vertical line
pub record IsStraightLine (from to : PointModel) : Type 0 where
  pub straight : (from.x ≡ to.x) ⊎ (from.y ≡ to.y)
  pub long : from ≢ to

-- how far a line reaches past an end: not back, and by a number that a DEF may have
pub record IsMetalReach (ext : ℤ) : Type 0 where
  pub forth : pos 0 ≤ℤ ext
  pub within : IsNumber ext

-- a width with a middle line, which a DEF may have
pub record IsWidthWithin (width : ℤ) : Type 0 where
  pub some : pos 0 <ℤ width
  pub even : IsEven width
  pub within : IsNumber width

-- a line that a DEF may draw
pub record IsLineWithin (from to : PointModel) (width ext_from ext_to : ℤ) : Type 0 where
  pub begins : IsPosition from
  pub ends : IsPosition to
  pub line : IsStraightLine from to
  pub wide : IsWidthWithin width
  pub before : IsMetalReach ext_from
  pub behind : IsMetalReach ext_to

-- the sum of two numbers that a LEF may have, such as a macro's origin and a coordinate of its shape
abbrev pub IsSumWithin : ℤ → Type 0
IsSumWithin z = unsigned_abs z ≤ 2 * NUMBER_LIMIT

-- a rectangle of such sums
pub record IsDrawnWithin (r : RectModel) : Type 0 where
  pub x1 : IsSumWithin r.x1
  pub y1 : IsSumWithin r.y1
  pub x2 : IsSumWithin r.x2
  pub y2 : IsSumWithin r.y2
