-- Rectangles by their unit squares.
use Rattle.std.proofs.Common.{◌-ℤ◌, ◌+ℤ◌, pos, arith}
use Rattle.std.proofs.lemmas.Int.{ints, by_lt_z}
use Rattle.leg_geom.specs.Plane.{PointModel, RectModel, IsRect, HasSquare, HasAllPoints}

-- a rectangle that has all points of another has all its unit squares
pub HasSquare-points : (a b : RectModel) → HasAllPoints a b → (p : PointModel) → HasSquare b p → HasSquare a p
HasSquare-points a b points p square =
    let low = points p (record { left = square.left; right = omega (arith, ints); bottom = square.bottom; top = omega (arith, ints) }) in
    let high =
    points (record { x = p.x +ℤ pos 1; y = p.y +ℤ pos 1 })
    (record { left = omega (arith, ints); right = omega (arith, ints); bottom = omega (arith, ints); top = omega (arith, ints) }) in
    record { left = low.left; right = omega (arith, ints, high.right); bottom = low.bottom; top = omega (arith, ints, high.top) }

-- a unit square of the second rectangle that isn't one of the first
pub record SquareOutside (a b : RectModel) : Type 0 where
  pub square : PointModel
  pub inside : HasSquare b square
  pub outside : HasSquare a square → ⊥

-- a rectangle that lacks a point of another, which has area, lacks one of its unit squares
pub SquareOutside-points : (a b : RectModel) → IsRect b → (HasAllPoints a b → ⊥) → SquareOutside a b
SquareOutside-points a b proper missed =
    let corner : HasSquare b (record { x = b.x1; y = b.y1 }) =
    record { left = omega (arith, ints); right = proper.wide; bottom = omega (arith, ints); top = proper.high } in
    let opposite : HasSquare b (record { x = b.x2 -ℤ pos 1; y = b.y2 -ℤ pos 1 }) =
    record { left = omega (arith, ints, proper.wide); right = omega (arith, ints); bottom = omega (arith, ints, proper.high); top = omega (arith, ints) } in
    by_lt_z b.x1 a.x1
    (λ h. record { square = record { x = b.x1; y = b.y1 }; inside = corner; outside = λ c. absurd (omega (arith, ints, c.left)) })
    (λ left. by_lt_z b.y1 a.y1
    (λ h. record { square = record { x = b.x1; y = b.y1 }; inside = corner; outside = λ c. absurd (omega (arith, ints, c.bottom)) })
    (λ bottom. by_lt_z a.x2 b.x2
    (λ h. record { square = record { x = b.x2 -ℤ pos 1; y = b.y2 -ℤ pos 1 }; inside = opposite; outside = λ c. absurd (omega (arith, ints, c.right)) })
    (λ right. by_lt_z a.y2 b.y2
    (λ h. record { square = record { x = b.x2 -ℤ pos 1; y = b.y2 -ℤ pos 1 }; inside = opposite; outside = λ c. absurd (omega (arith, ints, c.top)) })
    (λ top. absurd (missed (λ p m. record {
      left = omega (arith, ints, m.left);
      right = omega (arith, ints, m.right);
      bottom = omega (arith, ints, m.bottom);
      top = omega (arith, ints, m.top);
    }))))))
