-- Rectangles that have two points in common share a step along one of the axes.
use Rattle.std.proofs.Common.{◌≡◌, ◌≢◌, pos, ◌<ℤ◌, ◌+ℤ◌, ◌⊎◌, inl, inr, ap, arith}
use Rattle.std.proofs.lemmas.Int.{ints, by_lt_z}
use Rattle.leg_geom.specs.Plane.{PointModel, RectModel, HasPoint, SharePoint, ShareTwoPoints}
use Rattle.leg_geom.specs.Steps.Intervals.{HasNumber, ShareStep}
use Rattle.leg_geom.proofs.Points.{spot, same_spot}
use Rattle.leg_geom.proofs.Axes.{x_ends, y_ends}
use Rattle.leg_geom.proofs.Intervals.{ShareStep-numbers}

-- two points that differ do so along x or along y
x_differs : (p q : PointModel) → p.x <ℤ q.x → p ≢ q
x_differs p q h e = let f : p.x ≡ q.x = ap (λ (s : PointModel). s.x) e in omega (arith, ints)

y_differs : (p q : PointModel) → p.y <ℤ q.y → p ≢ q
y_differs p q h e = let f : p.y ≡ q.y = ap (λ (s : PointModel). s.y) e in omega (arith, ints)

-- a common point, and a common step along x: the two ends of that step, at the height of the point
pub ShareTwoPoints-x : (a b : RectModel) → SharePoint a b → ShareStep (x_ends a) (x_ends b) → ShareTwoPoints a b
ShareTwoPoints-x a b s t =
    let at_a = s.in_a in
    let at_b = s.in_b in
    let in_a = t.in_a in
    let in_b = t.in_b in
    record {
      p = spot t.step s.point.y;
      q = spot (t.step +ℤ pos 1) s.point.y;
      differ = x_differs _ _ (omega (arith, ints));
      p_in_a = record { left = in_a.above; right = omega (arith, ints); bottom = at_a.bottom; top = at_a.top };
      p_in_b = record { left = in_b.above; right = omega (arith, ints); bottom = at_b.bottom; top = at_b.top };
      q_in_a = record { left = omega (arith, ints); right = omega (arith, ints); bottom = at_a.bottom; top = at_a.top };
      q_in_b = record { left = omega (arith, ints); right = omega (arith, ints); bottom = at_b.bottom; top = at_b.top };
    }

pub ShareTwoPoints-y : (a b : RectModel) → SharePoint a b → ShareStep (y_ends a) (y_ends b) → ShareTwoPoints a b
ShareTwoPoints-y a b s t =
    let at_a = s.in_a in
    let at_b = s.in_b in
    let in_a = t.in_a in
    let in_b = t.in_b in
    record {
      p = spot s.point.x t.step;
      q = spot s.point.x (t.step +ℤ pos 1);
      differ = y_differs _ _ (omega (arith, ints));
      p_in_a = record { left = at_a.left; right = at_a.right; bottom = in_a.above; top = omega (arith, ints) };
      p_in_b = record { left = at_b.left; right = at_b.right; bottom = in_b.above; top = omega (arith, ints) };
      q_in_a = record { left = at_a.left; right = at_a.right; bottom = omega (arith, ints); top = omega (arith, ints) };
      q_in_b = record { left = at_b.left; right = at_b.right; bottom = omega (arith, ints); top = omega (arith, ints) };
    }

x_number : (r : RectModel) (p : PointModel) → HasPoint r p → HasNumber (x_ends r) p.x
x_number r p m = record { above = m.left; below = m.right }

y_number : (r : RectModel) (p : PointModel) → HasPoint r p → HasNumber (y_ends r) p.y
y_number r p m = record { above = m.bottom; below = m.top }

-- between two common points there is a common step along x, or else along y
pub ShareTwoPoints-step : (a b : RectModel) → ShareTwoPoints a b → ShareStep (x_ends a) (x_ends b) ⊎ ShareStep (y_ends a) (y_ends b)
ShareTwoPoints-step a b s =
    let pa = s.p_in_a in
    let pb = s.p_in_b in
    let qa = s.q_in_a in
    let qb = s.q_in_b in
    by_lt_z s.p.x s.q.x
    (λ h. inl (ShareStep-numbers _ _ _ _ (x_number _ _ pa) (x_number _ _ pb) (x_number _ _ qa) (x_number _ _ qb) h))
    (λ m.
    by_lt_z s.q.x s.p.x
    (λ h. inl (ShareStep-numbers _ _ _ _ (x_number _ _ qa) (x_number _ _ qb) (x_number _ _ pa) (x_number _ _ pb) h))
    (λ k.
    by_lt_z s.p.y s.q.y
    (λ h. inr (ShareStep-numbers _ _ _ _ (y_number _ _ pa) (y_number _ _ pb) (y_number _ _ qa) (y_number _ _ qb) h))
    (λ n.
    by_lt_z s.q.y s.p.y
    (λ h. inr (ShareStep-numbers _ _ _ _ (y_number _ _ qa) (y_number _ _ qb) (y_number _ _ pa) (y_number _ _ pb) h))
    (λ l. absurd (s.differ (same_spot _ _ _ _ (omega (arith, ints)) (omega (arith, ints))))))))
