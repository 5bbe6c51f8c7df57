-- A rectangle by its points.
use Rattle.std.proofs.Common.{◌≡◌, arith}
use Rattle.std.proofs.lemmas.Int.{ints}
use Rattle.leg_geom.specs.Plane.{PointModel, RectModel, IsRect, HasPoint, HasAllPoints}
use Rattle.leg_geom.proofs.Points.{same_sides}

abbrev pub lower_left : RectModel → PointModel
lower_left r = record { x = r.x1; y = r.y1 }

abbrev pub upper_right : RectModel → PointModel
upper_right r = record { x = r.x2; y = r.y2 }

pub HasPoint-lower_left : (r : RectModel) → IsRect r → HasPoint r (lower_left r)
HasPoint-lower_left r p = record { left = omega (arith, ints); right = omega (arith, ints); bottom = omega (arith, ints); top = omega (arith, ints) }

pub HasPoint-upper_right : (r : RectModel) → IsRect r → HasPoint r (upper_right r)
HasPoint-upper_right r p = record { left = omega (arith, ints); right = omega (arith, ints); bottom = omega (arith, ints); top = omega (arith, ints) }

-- rectangles with the same points have the same corners
pub HasAllPoints-both : (a b : RectModel) → IsRect a → IsRect b → HasAllPoints a b → HasAllPoints b a → a ≡ b
HasAllPoints-both a b ra rb f g =
    let p = f (lower_left b) (HasPoint-lower_left b rb) in
    let q = g (lower_left a) (HasPoint-lower_left a ra) in
    let s = f (upper_right b) (HasPoint-upper_right b rb) in
    let t = g (upper_right a) (HasPoint-upper_right a ra) in
    same_sides _ _ _ _ _ _ _ _ (omega (arith, ints)) (omega (arith, ints)) (omega (arith, ints)) (omega (arith, ints))
