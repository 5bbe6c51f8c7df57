-- Hulls of boxes that stand one behind the other in a list (lefdef's own rule).
use Rattle.std.specs.Prelude.{◌≡◌, ℕ, ◌+◌, ◌<◌, ◌≤◌, List, length, Some, slice_get}
use Rattle.leg_route_grid.specs.declared.slot_box.SlotBox.{SlotBox}
use Rattle.leg_route_grid.specs.declared.hulls.Hull.{Hull}

-- no part of the second box lies outside of the first
pub record Covers (hull ends : SlotBox) : Type 0 where
  pub low_layer : hull.low.layer ≤ ends.low.layer
  pub low_row : hull.low.row ≤ ends.low.row
  pub low_column : hull.low.column ≤ ends.low.column
  pub high_layer : ends.high.layer ≤ hull.high.layer
  pub high_row : ends.high.row ≤ hull.high.row
  pub high_column : ends.high.column ≤ hull.high.column

-- the hull is one of some of the boxes, of which the box of this number is the last
pub record IsHullAt (boxes : List SlotBox) (last : ℕ) (hull : Hull) : Type 0 where
  pub some : 0 < hull.count
  pub within : hull.count ≤ last + 1
  pub covers : (j : ℕ) (ends : SlotBox) → slice_get boxes j ≡ Some ends → j ≤ last → last < j + hull.count → Covers hull.ends ends

-- each is the hull of some boxes of which the last is the one of its number
abbrev pub AreEachHull : List SlotBox → List Hull → Type 0
AreEachHull boxes hulls = (k : ℕ) (hull : Hull) → slice_get hulls k ≡ Some hull → IsHullAt boxes k hull

-- a hull for each of the boxes
pub record AreHulls (boxes : List SlotBox) (hulls : List Hull) : Type 0 where
  pub one_each : length hulls ≡ length boxes
  pub each : AreEachHull boxes hulls
