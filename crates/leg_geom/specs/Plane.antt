-- Points, unit squares and rectangles of the plane, in database units.
use Rattle.std.specs.Prelude.{◌≢◌, ◌≤◌, ℤ, pos, ◌+ℤ◌, ◌≤ℤ◌, ◌<ℤ◌, unsigned_abs}
use Rattle.std.specs.Int.{int_div_euclid}
use Rattle.leg_geom.specs.declared.limits.TheConstants.{COORDINATE_LIMIT}

-- a point of the lattice
pub record PointModel : Type 0 where
  pub x : ℤ
  pub y : ℤ

-- a rectangle by its lower left and its upper right corner
pub record RectModel : Type 0 where
  pub x1 : ℤ
  pub y1 : ℤ
  pub x2 : ℤ
  pub y2 : ℤ

-- a coordinate is within the limit, whatever its sign
abbrev pub IsCoordinate : ℤ → Type 0
IsCoordinate z = unsigned_abs z ≤ COORDINATE_LIMIT

-- both coordinates of a point are within the limit
pub record IsSpot (p : PointModel) : Type 0 where
  pub x : IsCoordinate p.x
  pub y : IsCoordinate p.y

-- a rectangle has area, and its corners are within the limit
pub record IsRect (r : RectModel) : Type 0 where
  pub x1 : IsCoordinate r.x1
  pub y1 : IsCoordinate r.y1
  pub x2 : IsCoordinate r.x2
  pub y2 : IsCoordinate r.y2
  pub wide : r.x1 <ℤ r.x2
  pub high : r.y1 <ℤ r.y2

-- the point lies in the rectangle, whose border belongs to it
pub record HasPoint (r : RectModel) (p : PointModel) : Type 0 where
  pub left : r.x1 ≤ℤ p.x
  pub right : p.x ≤ℤ r.x2
  pub bottom : r.y1 ≤ℤ p.y
  pub top : p.y ≤ℤ r.y2

-- the unit square whose lower left corner is the point lies in the rectangle
pub record HasSquare (r : RectModel) (p : PointModel) : Type 0 where
  pub left : r.x1 ≤ℤ p.x
  pub right : p.x <ℤ r.x2
  pub bottom : r.y1 ≤ℤ p.y
  pub top : p.y <ℤ r.y2

-- some unit square lies in both rectangles
pub record ShareSquare (a b : RectModel) : Type 0 where
  pub square : PointModel
  pub in_a : HasSquare a square
  pub in_b : HasSquare b square

-- some point lies in both rectangles
pub record SharePoint (a b : RectModel) : Type 0 where
  pub point : PointModel
  pub in_a : HasPoint a point
  pub in_b : HasPoint b point

-- two different points lie in both rectangles
pub record ShareTwoPoints (a b : RectModel) : Type 0 where
  pub p : PointModel
  pub q : PointModel
  pub differ : p ≢ q
  pub p_in_a : HasPoint a p
  pub p_in_b : HasPoint b p
  pub q_in_a : HasPoint a q
  pub q_in_b : HasPoint b q

-- each point of the second rectangle is one of the first
abbrev pub HasAllPoints : RectModel → RectModel → Type 0
HasAllPoints a b = (p : PointModel) → HasPoint b p → HasPoint a p

-- the number is halfway between two others, rounded down: twice the number is their sum, or one less
pub record IsHalfway (a b half : ℤ) : Type 0 where
  pub below : (half +ℤ half) ≤ℤ (a +ℤ b)
  pub near : (a +ℤ b) ≤ℤ (half +ℤ half +ℤ pos 1)

-- the point is the rectangle's centre, each coordinate rounded down
pub record IsCentre (r : RectModel) (p : PointModel) : Type 0 where
  pub x : IsHalfway r.x1 r.x2 p.x
  pub y : IsHalfway r.y1 r.y2 p.y

-- half the sum of two numbers, rounded down
abbrev pub halfway : ℤ → ℤ → ℤ
halfway a b = int_div_euclid (a +ℤ b) (pos 2)

-- the centre of a rectangle
abbrev pub centre : RectModel → PointModel
centre r = record { x = halfway r.x1 r.x2; y = halfway r.y1 r.y2 }
