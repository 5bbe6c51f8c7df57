-- The sides of rectangles, and how far those of two run beside one another (lefdef's own rules).
use Rattle.std.specs.Prelude.{ℤ, ◌-ℤ◌, List, [], ◌∷◌}
use Rattle.std.specs.Int.{int_min, int_max}
use Rattle.leg_geom.specs.Plane.{RectModel}

-- the coordinates of the sides
abbrev pub coordinates : RectModel → List ℤ
coordinates r = r.x1 ∷ r.y1 ∷ r.x2 ∷ r.y2 ∷ []

-- the width of a shape: its lesser side
abbrev pub lesser_side : RectModel → ℤ
lesser_side r = int_min (r.x2 -ℤ r.x1) (r.y2 -ℤ r.y1)

-- the length that two intervals have in common: below 0 where a gap is between them
abbrev pub overlap : ℤ → ℤ → ℤ → ℤ → ℤ
overlap a_low a_high b_low b_high = int_min a_high b_high -ℤ int_max a_low b_low

-- The parallel run of two rectangles is the greater of the lengths by which their x sides and their y sides overlap.
abbrev pub parallel_run : RectModel → RectModel → ℤ
parallel_run a b = int_max (overlap a.x1 a.x2 b.x1 b.x2) (overlap a.y1 a.y2 b.y1 b.y2)
