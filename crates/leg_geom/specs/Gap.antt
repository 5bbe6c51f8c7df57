-- How far two rectangles lie apart, along an axis and by Euclidean distance, in database units.
use Rattle.std.specs.Prelude.{◌≡◌, ℕ, ◌+◌, ◌*◌, ◌≤◌, ℤ, ◌-ℤ◌, unsigned_abs, int_lt, if◌then◌else◌}
use Rattle.leg_geom.specs.Plane.{PointModel, RectModel, HasPoint}

-- the distance of two whole numbers
abbrev pub apart : ℤ → ℤ → ℕ
apart a b = unsigned_abs (a -ℤ b)

-- the gap of the interval from a_low to a_high and the one from b_low to b_high: 0 where they meet
abbrev pub gap_between : ℤ → ℤ → ℤ → ℤ → ℕ
gap_between a_low a_high b_low b_high =
    if int_lt a_high b_low then apart b_low a_high
    else (if int_lt b_high a_low then apart a_low b_high else 0)

-- the x gap of two rectangles
abbrev pub x_gap : RectModel → RectModel → ℕ
x_gap a b = gap_between a.x1 a.x2 b.x1 b.x2

-- the y gap of two rectangles
abbrev pub y_gap : RectModel → RectModel → ℕ
y_gap a b = gap_between a.y1 a.y2 b.y1 b.y2

-- n is the least difference between the x of a point of the one rectangle and that of a point of the other
pub record IsXGap (a b : RectModel) (n : ℕ) : Type 0 where
  pub p : PointModel
  pub q : PointModel
  pub in_a : HasPoint a p
  pub in_b : HasPoint b q
  pub is : apart p.x q.x ≡ n
  pub least : (s t : PointModel) → HasPoint a s → HasPoint b t → n ≤ apart s.x t.x

-- n is the least difference between the y of a point of the one rectangle and that of a point of the other
pub record IsYGap (a b : RectModel) (n : ℕ) : Type 0 where
  pub p : PointModel
  pub q : PointModel
  pub in_a : HasPoint a p
  pub in_b : HasPoint b q
  pub is : apart p.y q.y ≡ n
  pub least : (s t : PointModel) → HasPoint a s → HasPoint b t → n ≤ apart s.y t.y

-- the squared distance of two points
abbrev pub square_distance : PointModel → PointModel → ℕ
square_distance p q = apart p.x q.x * apart p.x q.x + apart p.y q.y * apart p.y q.y

-- n is the least squared distance of a point of the one rectangle and a point of the other
pub record IsSquareGap (a b : RectModel) (n : ℕ) : Type 0 where
  pub p : PointModel
  pub q : PointModel
  pub in_a : HasPoint a p
  pub in_b : HasPoint b q
  pub is : square_distance p q ≡ n
  pub least : (s t : PointModel) → HasPoint a s → HasPoint b t → n ≤ square_distance s t
