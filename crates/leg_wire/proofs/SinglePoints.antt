-- The only point that two rectangles share.
use Rattle.std.proofs.Common.{◌≡◌, ℤ, ◌≤ℤ◌, ap, arith}
use Rattle.std.specs.Int.{int_max}
use Rattle.std.proofs.lemmas.Int.{ints, by_lt_z}
use Rattle.leg_geom.specs.Plane.{PointModel, RectModel, SharePoint, ShareTwoPoints}
use Rattle.leg_geom.proofs.Points.{same_point}
use Rattle.leg_wire.specs.Steps.SharedPoints.{spot_of, IsShared, IsOnlyShared}

-- the greater of two numbers is the least one that is below neither
first_below_max : (a b : ℤ) → a ≤ℤ int_max a b
first_below_max a b = grind (arith, ints)

second_below_max : (a b : ℤ) → b ≤ℤ int_max a b
second_below_max a b = grind (arith, ints)

max_below : (a b z : ℤ) → a ≤ℤ z → b ≤ℤ z → int_max a b ≤ℤ z
max_below a b z first second = grind (arith, ints)

module _ (a b : RectModel) (x y : ℤ) (x_is : x ≡ int_max a.x1 b.x1) (y_is : y ≡ int_max a.y1 b.y1) where
  -- the lower left corner of what two rectangles share
  corner_shared : SharePoint a b → IsShared a b (spot_of (x, y))
  corner_shared meet = record {
    in_a = record {
      left = rw x_is (first_below_max a.x1 b.x1);
      right = rw x_is (max_below a.x1 b.x1 a.x2 (omega (arith, ints, meet.in_a.left, meet.in_a.right)) (omega (arith, ints, meet.in_b.left, meet.in_a.right)));
      bottom = rw y_is (first_below_max a.y1 b.y1);
      top = rw y_is (max_below a.y1 b.y1 a.y2 (omega (arith, ints, meet.in_a.bottom, meet.in_a.top)) (omega (arith, ints, meet.in_b.bottom, meet.in_a.top)));
    };
    in_b = record {
      left = rw x_is (second_below_max a.x1 b.x1);
      right = rw x_is (max_below a.x1 b.x1 b.x2 (omega (arith, ints, meet.in_a.left, meet.in_b.right)) (omega (arith, ints, meet.in_b.left, meet.in_b.right)));
      bottom = rw y_is (second_below_max a.y1 b.y1);
      top = rw y_is (max_below a.y1 b.y1 b.y2 (omega (arith, ints, meet.in_a.bottom, meet.in_b.top)) (omega (arith, ints, meet.in_b.bottom, meet.in_b.top)));
    };
  }

  -- where they share a single point, it is this one
  pub corner_only : SharePoint a b → (ShareTwoPoints a b → ⊥) → IsOnlyShared a b (spot_of (x, y))
  corner_only meet single = record { shared = shared; only = λ q in_both. same_point q (spot_of (x, y)) (same_x q in_both) (same_y q in_both) }
    where
      shared : IsShared a b (spot_of (x, y))
      shared = corner_shared meet

      none_other : (q : PointModel) → IsShared a b q → (q ≡ spot_of (x, y) → ⊥) → ⊥
      none_other q in_both differ = single (record {
        p = q;
        q = spot_of (x, y);
        differ = differ;
        p_in_a = in_both.in_a;
        p_in_b = in_both.in_b;
        q_in_a = shared.in_a;
        q_in_b = shared.in_b;
      })

      same_x : (q : PointModel) → IsShared a b q → q.x ≡ x
      same_x q in_both =
          let above : x ≤ℤ q.x = rw x_is (max_below a.x1 b.x1 q.x in_both.in_a.left in_both.in_b.left) in
          by_lt_z x q.x
          (λ beyond. absurd (none_other q in_both (λ same. let is : q.x ≡ x = ap (λ (s : PointModel). s.x) same in omega (arith, ints, beyond, is))))
          (λ within. omega (arith, ints, above, within))

      same_y : (q : PointModel) → IsShared a b q → q.y ≡ y
      same_y q in_both =
          let above : y ≤ℤ q.y = rw y_is (max_below a.y1 b.y1 q.y in_both.in_a.bottom in_both.in_b.bottom) in
          by_lt_z y q.y
          (λ beyond. absurd (none_other q in_both (λ same. let is : q.y ≡ y = ap (λ (s : PointModel). s.y) same in omega (arith, ints, beyond, is))))
          (λ within. omega (arith, ints, above, within))
