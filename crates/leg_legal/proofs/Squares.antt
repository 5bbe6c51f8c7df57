-- Whether two rectangles share a unit square, and whether one has all those of the other.
use Rattle.std.proofs.Common.{◌⊎◌, ℤ, ◌≤ℤ◌, ◌<ℤ◌, ◌-ℤ◌, pos, inl, inr, arith}
use Rattle.std.proofs.lemmas.Int.{ints, by_lt_z}
use Rattle.leg_geom.specs.Plane.{PointModel, RectModel, HasSquare, ShareSquare}
use Rattle.leg_legal.proofs.Decisions.{HoldsOrNot}

-- a number lies in both of two intervals
record IsInBoth (a b c d x : ℤ) : Type 0 where
  first : a ≤ℤ x
  below : x <ℤ b
  second : c ≤ℤ x
  above : x <ℤ d

in_both_or_not : (a b c d : ℤ) → HoldsOrNot ((x : ℤ) × IsInBoth a b c d x)
in_both_or_not a b c d =
    by_lt_z a c
    (λ low. by_lt_z c b
    (λ here. by_lt_z c d
    (λ there. inl (c, record { first = omega (arith, ints); below = here; second = omega (arith, ints); above = there }))
    (λ empty. inr (λ (x, is). omega (arith, ints, empty, is.second, is.above))))
    (λ past. inr (λ (x, is). omega (arith, ints, past, is.second, is.below))))
    (λ upto. by_lt_z a b
    (λ here. by_lt_z a d
    (λ there. inl (a, record { first = omega (arith, ints); below = here; second = upto; above = there }))
    (λ past. inr (λ (x, is). omega (arith, ints, past, is.first, is.above))))
    (λ empty. inr (λ (x, is). omega (arith, ints, empty, is.first, is.below))))

pub share_or_not : (a b : RectModel) → HoldsOrNot (ShareSquare a b)
share_or_not a b =
    elim (in_both_or_not a.x1 a.x2 b.x1 b.x2) [
      | inr never ↦ inr (λ s. never (s.square.x, record { first = s.in_a.left; below = s.in_a.right; second = s.in_b.left; above = s.in_b.right }))
      | inl (x, x_is) ↦ elim (in_both_or_not a.y1 a.y2 b.y1 b.y2) [
        | inr never ↦ inr (λ s. never (s.square.y, record { first = s.in_a.bottom; below = s.in_a.top; second = s.in_b.bottom; above = s.in_b.top }))
        | inl (y, y_is) ↦ inl (record {
          square = record { x = x; y = y };
          in_a = record { left = x_is.first; right = x_is.below; bottom = y_is.first; top = y_is.below };
          in_b = record { left = x_is.second; right = x_is.above; bottom = y_is.second; top = y_is.above };
        })
      ]
    ]

-- a unit square of the box that isn't one of the die
pub record IsMissing (die box : RectModel) : Type 0 where
  pub square : PointModel
  pub inside : HasSquare box square
  pub outside : HasSquare die square → ⊥

pub missing_or_all : (die box : RectModel) → IsMissing die box ⊎ ((square : PointModel) → HasSquare box square → HasSquare die square)
missing_or_all die box =
    by_lt_z box.x1 box.x2
    (λ wide. by_lt_z box.y1 box.y2
    (λ high.
    let corner : HasSquare box (record { x = box.x1; y = box.y1 }) =
    record { left = omega (arith, ints); right = wide; bottom = omega (arith, ints); top = high } in
    let opposite : HasSquare box (record { x = box.x2 -ℤ pos 1; y = box.y2 -ℤ pos 1 }) =
    record { left = omega (arith, ints, wide); right = omega (arith, ints); bottom = omega (arith, ints, high); top = omega (arith, ints) } in
    by_lt_z box.x1 die.x1
    (λ h. inl (record { square = record { x = box.x1; y = box.y1 }; inside = corner; outside = λ c. omega (arith, ints, h, c.left) }))
    (λ left. by_lt_z box.y1 die.y1
    (λ h. inl (record { square = record { x = box.x1; y = box.y1 }; inside = corner; outside = λ c. omega (arith, ints, h, c.bottom) }))
    (λ bottom. by_lt_z die.x2 box.x2
    (λ h. inl (record { square = record { x = box.x2 -ℤ pos 1; y = box.y2 -ℤ pos 1 }; inside = opposite; outside = λ c. omega (arith, ints, h, c.right) }))
    (λ right. by_lt_z die.y2 box.y2
    (λ h. inl (record { square = record { x = box.x2 -ℤ pos 1; y = box.y2 -ℤ pos 1 }; inside = opposite; outside = λ c. omega (arith, ints, h, c.top) }))
    (λ top. inr (λ square s. record {
      left = omega (arith, ints, left, s.left);
      right = omega (arith, ints, right, s.right);
      bottom = omega (arith, ints, bottom, s.bottom);
      top = omega (arith, ints, top, s.top);
    }))))))
    (λ flat. inr (λ square s. absurd (omega (arith, ints, flat, s.bottom, s.top)))))
    (λ thin. inr (λ square s. absurd (omega (arith, ints, thin, s.left, s.right))))
