-- What rules over pairs of rectangles need to know of unit squares and gaps.
use Rattle.std.proofs.Common.{◌≡◌, ℕ, ◌+◌, ◌*◌, ◌<◌, ◌≤◌, ℤ, inl, inr, refl, arith}
use Rattle.std.proofs.lemmas.Int.{ints}
use Rattle.std.proofs.lemmas.Nat.{mul-le}
use Rattle.std.proofs.lemmas.Bool.{cases_lt}
use Rattle.leg_geom.specs.Plane.{PointModel, RectModel, HasPoint, IsRect, ShareSquare, SharePoint}
use Rattle.leg_geom.specs.Gap.{apart, square_distance, x_gap, y_gap, IsXGap, IsYGap, IsSquareGap}
use Rattle.leg_geom.proofs.Axes.{IsSpan-x_ends, IsSpan-y_ends, IsXGap-ends, IsYGap-ends}
use Rattle.leg_geom.proofs.Intervals.{IsGap-gap_between}

pub ShareSquare-symmetric : (a b : RectModel) → ShareSquare a b → ShareSquare b a
ShareSquare-symmetric a b s = record { square = s.square; in_a = s.in_b; in_b = s.in_a }

-- rectangles that share a unit square have no gap along either axis: they are within any reach
pub ShareSquare-gaps : (a b : RectModel) → ShareSquare a b → (x_gap a b ≤ 0) × (y_gap a b ≤ 0)
ShareSquare-gaps a b s =
    let in_a = s.in_a in
    let in_b = s.in_b in
    (grind (arith, ints), grind (arith, ints))

pub SharePoint-symmetric : (a b : RectModel) → SharePoint a b → SharePoint b a
SharePoint-symmetric a b s = record { point = s.point; in_a = s.in_b; in_b = s.in_a }

-- neither gap is more than the difference of two points along its axis
pub x_gap-least : (a b : RectModel) (p q : PointModel) → HasPoint a p → HasPoint b q → x_gap a b ≤ apart p.x q.x
x_gap-least a b p q in_a in_b = grind (arith, ints)

pub y_gap-least : (a b : RectModel) (p q : PointModel) → HasPoint a p → HasPoint b q → y_gap a b ≤ apart p.y q.y
y_gap-least a b p q in_a in_b = grind (arith, ints)

-- rectangles that share a point have no gap along either axis
pub SharePoint-gaps : (a b : RectModel) → SharePoint a b → (x_gap a b ≤ 0) × (y_gap a b ≤ 0)
SharePoint-gaps a b s =
    let in_a = s.in_a in
    let in_b = s.in_b in
    (grind (arith, ints), grind (arith, ints))

apart-symmetric : (a b : ℤ) → apart a b ≡ apart b a
apart-symmetric a b = omega (arith, ints)

pub square_distance-symmetric : (p q : PointModel) → square_distance p q ≡ square_distance q p
square_distance-symmetric p q = rw (apart-symmetric p.x q.x, apart-symmetric p.y q.y) refl

-- a side is less than another one where its square and some more are less than the other's
pub less_from_squares : (a n more : ℕ) → a * a + more < n * n → a < n
less_from_squares a n more less =
    elim (cases_lt a n) [ inl below ↦ below | inr above ↦ absurd (omega (arith, less, mul-le _ _ _ _ above above)) ]

-- the gaps are the least differences of the points' coordinates
pub IsXGap-x_gap : (a b : RectModel) → IsRect a → IsRect b → IsXGap a b (x_gap a b)
IsXGap-x_gap a b ra rb = IsXGap-ends a b _ ra rb (IsGap-gap_between _ _ (IsSpan-x_ends a ra) (IsSpan-x_ends b rb))

pub IsYGap-y_gap : (a b : RectModel) → IsRect a → IsRect b → IsYGap a b (y_gap a b)
IsYGap-y_gap a b ra rb = IsYGap-ends a b _ ra rb (IsGap-gap_between _ _ (IsSpan-y_ends a ra) (IsSpan-y_ends b rb))

-- the squares of the two gaps make the least squared distance
pub IsSquareGap-gaps : (a b : RectModel) (m n : ℕ) → IsXGap a b m → IsYGap a b n → IsSquareGap a b (m * m + n * n)
IsSquareGap-gaps a b m n g h = record {
  p = record { x = g.p.x; y = h.p.y };
  q = record { x = g.q.x; y = h.q.y };
  in_a = record { left = g.in_a.left; right = g.in_a.right; bottom = h.in_a.bottom; top = h.in_a.top };
  in_b = record { left = g.in_b.left; right = g.in_b.right; bottom = h.in_b.bottom; top = h.in_b.top };
  is = rw (g.is, h.is) refl;
  least = λ s t ms mt.
      let x = g.least s t ms mt in
      let y = h.least s t ms mt in
      let xx = mul-le _ _ _ _ x x in
      let yy = mul-le _ _ _ _ y y in
      omega arith;
}
