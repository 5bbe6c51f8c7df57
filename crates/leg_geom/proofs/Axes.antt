-- Rectangles by their two intervals.
use Rattle.std.proofs.Common.{◌↔◌, ℕ, arith}
use Rattle.std.proofs.lemmas.Int.{ints}
use Rattle.leg_geom.specs.Plane.{RectModel, IsRect, ShareSquare, SharePoint, HasAllPoints}
use Rattle.leg_geom.specs.Line.{Interval}
use Rattle.leg_geom.specs.Steps.Intervals.{IsSpan, ShareNumber, ShareStep, HasAllNumbers, IsGap}
use Rattle.leg_geom.specs.Gap.{IsXGap, IsYGap}

-- a rectangle along each axis
abbrev pub x_ends : RectModel → Interval
x_ends r = record { low = r.x1; high = r.x2 }

abbrev pub y_ends : RectModel → Interval
y_ends r = record { low = r.y1; high = r.y2 }

pub IsSpan-x_ends : (r : RectModel) → IsRect r → IsSpan (x_ends r)
IsSpan-x_ends r p = record { low = p.x1; high = p.x2; long = p.wide }

pub IsSpan-y_ends : (r : RectModel) → IsRect r → IsSpan (y_ends r)
IsSpan-y_ends r p = record { low = p.y1; high = p.y2; long = p.high }

-- rectangles share a unit square just where their intervals share a step along each axis
pub ShareSquare-steps : (a b : RectModel) → (ShareStep (x_ends a) (x_ends b) × ShareStep (y_ends a) (y_ends b)) ↔ ShareSquare a b
ShareSquare-steps a b = (
  λ s. record {
    square = record { x = s.0.step; y = s.1.step };
    in_a = record { left = s.0.in_a.above; right = s.0.in_a.below; bottom = s.1.in_a.above; top = s.1.in_a.below };
    in_b = record { left = s.0.in_b.above; right = s.0.in_b.below; bottom = s.1.in_b.above; top = s.1.in_b.below };
  },
  λ s. (
    record {
      step = s.square.x;
      in_a = record { above = s.in_a.left; below = s.in_a.right };
      in_b = record { above = s.in_b.left; below = s.in_b.right };
    },
    record {
      step = s.square.y;
      in_a = record { above = s.in_a.bottom; below = s.in_a.top };
      in_b = record { above = s.in_b.bottom; below = s.in_b.top };
    },
  ),
)

-- rectangles share a point just where their intervals share a number along each axis
pub SharePoint-numbers : (a b : RectModel) → (ShareNumber (x_ends a) (x_ends b) × ShareNumber (y_ends a) (y_ends b)) ↔ SharePoint a b
SharePoint-numbers a b = (
  λ s. record {
    point = record { x = s.0.number; y = s.1.number };
    in_a = record { left = s.0.in_a.above; right = s.0.in_a.below; bottom = s.1.in_a.above; top = s.1.in_a.below };
    in_b = record { left = s.0.in_b.above; right = s.0.in_b.below; bottom = s.1.in_b.above; top = s.1.in_b.below };
  },
  λ s. (
    record {
      number = s.point.x;
      in_a = record { above = s.in_a.left; below = s.in_a.right };
      in_b = record { above = s.in_b.left; below = s.in_b.right };
    },
    record {
      number = s.point.y;
      in_a = record { above = s.in_a.bottom; below = s.in_a.top };
      in_b = record { above = s.in_b.bottom; below = s.in_b.top };
    },
  ),
)

-- a rectangle has all points of a second one just where its intervals have all numbers of that one's; the second has
-- area, since any rectangle has all points of one with no points
pub HasAllPoints-numbers : (a b : RectModel) → IsRect b → (HasAllNumbers (x_ends a) (x_ends b) × HasAllNumbers (y_ends a) (y_ends b)) ↔ HasAllPoints a b
HasAllPoints-numbers a b r = (
  λ s p m.
      let x = s.0 p.x (record { above = m.left; below = m.right }) in
      let y = s.1 p.y (record { above = m.bottom; below = m.top }) in
      record { left = x.above; right = x.below; bottom = y.above; top = y.below },
  λ s. (
    λ z m.
        let p = s (record { x = z; y = b.y1 }) (record { left = m.above; right = m.below; bottom = omega (arith, ints); top = omega (arith, ints) }) in
        record { above = p.left; below = p.right },
    λ z m.
        let p = s (record { x = b.x1; y = z }) (record { left = omega (arith, ints); right = omega (arith, ints); bottom = m.above; top = m.below }) in
        record { above = p.bottom; below = p.top },
  ),
)

-- the gap of two rectangles along an axis is that of their intervals
pub IsXGap-ends : (a b : RectModel) (n : ℕ) → IsRect a → IsRect b → IsGap (x_ends a) (x_ends b) n → IsXGap a b n
IsXGap-ends a b n ra rb g = record {
  p = record { x = g.p; y = a.y1 };
  q = record { x = g.q; y = b.y1 };
  in_a = record { left = g.in_a.above; right = g.in_a.below; bottom = omega (arith, ints); top = omega (arith, ints) };
  in_b = record { left = g.in_b.above; right = g.in_b.below; bottom = omega (arith, ints); top = omega (arith, ints) };
  is = g.is;
  least = λ s t m k. g.least s.x t.x (record { above = m.left; below = m.right }) (record { above = k.left; below = k.right });
}

pub IsYGap-ends : (a b : RectModel) (n : ℕ) → IsRect a → IsRect b → IsGap (y_ends a) (y_ends b) n → IsYGap a b n
IsYGap-ends a b n ra rb g = record {
  p = record { x = a.x1; y = g.p };
  q = record { x = b.x1; y = g.q };
  in_a = record { left = omega (arith, ints); right = omega (arith, ints); bottom = g.in_a.above; top = g.in_a.below };
  in_b = record { left = omega (arith, ints); right = omega (arith, ints); bottom = g.in_b.above; top = g.in_b.below };
  is = g.is;
  least = λ s t m k. g.least s.y t.y (record { above = m.bottom; below = m.top }) (record { above = k.bottom; below = k.top });
}
