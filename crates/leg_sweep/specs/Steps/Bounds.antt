-- Bounds that enclose rectangles, in steps of 8 database units, and windows that they reach into.
use Rattle.std.specs.Prelude.{◌≡◌, ℕ, Bool, ◌&&◌, ℤ, pos, ◌+ℤ◌, ◌-ℤ◌, ◌≤ℤ◌, int_le}
use Rattle.std.specs.Int.{int_div_euclid}
use Rattle.leg_geom.specs.Plane.{RectModel, IsRect}
use Rattle.leg_sweep.specs.declared.bounds.Bounds.{Bounds}
use Rattle.leg_sweep.specs.declared.bounds.Window.{Window}

-- the number of the step that a coordinate lies in
abbrev pub step_of : ℤ → ℤ
step_of z = int_div_euclid z (pos 8)

-- the bounds of a rectangle with what lies around it
abbrev pub bounds_around : RectModel → ℕ → Bounds
bounds_around r reach = record {
  x1 = step_of (r.x1 -ℤ pos reach);
  y1 = step_of (r.y1 -ℤ pos reach);
  x2 = step_of (r.x2 +ℤ pos reach);
  y2 = step_of (r.y2 +ℤ pos reach);
}

-- what lies between the first bounds lies between the second
pub record IsWithin (inner outer : Bounds) : Type 0 where
  pub left : outer.x1 ≤ℤ inner.x1
  pub bottom : outer.y1 ≤ℤ inner.y1
  pub right : inner.x2 ≤ℤ outer.x2
  pub top : inner.y2 ≤ℤ outer.y2

-- some step along x, and some along y, lies in both
abbrev pub meet : Bounds → Bounds → Bool
meet a b = int_le b.x1 a.x2 && int_le a.x1 b.x2 && int_le b.y1 a.y2 && int_le a.y1 b.y2

-- the bounds of a window are those of its rectangle with what lies around it
pub record IsWindow (w : Window) : Type 0 where
  pub proper : IsRect w.rect
  pub bounds : w.bounds ≡ bounds_around w.rect w.reach
