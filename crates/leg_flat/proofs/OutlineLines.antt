-- Lines of metal, and segments of the grid: the interval along one and the interval across it make its rectangle.
use Rattle.std.proofs.Common.{◌≡◌, ◌≢◌, ◌↔◌, ◌⊎◌, inl, inr, ℤ, ◌+ℤ◌, ◌-ℤ◌, ◌<ℤ◌, Option, Some, w64, to_z, of_z, refl, ◌∙◌, arith}
use Rattle.std.specs.Option.{IsSome, SomeIff}
use Rattle.std.proofs.lemmas.Int.{ints}
use Rattle.leg_lemmas.proofs.Options.{there_where, value_there}
use Rattle.leg_geom.specs.Plane.{PointModel, RectModel, IsRect, HasPoint}
use Rattle.leg_geom.specs.Line.{Interval}
use Rattle.leg_geom.specs.Steps.Intervals.{IsSpan, HasNumber}
use Rattle.leg_geom.proofs.Coordinates.{coordinate_kept}
use Rattle.leg_geom.proofs.Points.{same_spot, sides, same_sides}
use Rattle.leg_rules.specs.Metal.Outline.{IsAlong, IsAcross, IsOfHorizontal, IsOfVertical}

abbrev pub ends : ℤ → ℤ → Interval
ends low high = record { low = low; high = high }

-- the interval has exactly the numbers along a line
abbrev pub RunsAlong : ℤ → ℤ → ℤ → ℤ → Interval → Type 0
RunsAlong from to ext_from ext_to s = (z : ℤ) → HasNumber s z ↔ IsAlong from to ext_from ext_to z

-- the interval has exactly the numbers across a line
abbrev pub RunsAcross : ℤ → ℤ → Interval → Type 0
RunsAcross line width s = (z : ℤ) → HasNumber s z ↔ IsAcross line width z

pub along_up : (from to ext_from ext_to low high : ℤ) → from <ℤ to → low ≡ from -ℤ ext_from → high ≡ to +ℤ ext_to
    → RunsAlong from to ext_from ext_to (ends low high)
along_up from to ext_from ext_to low high up l h z = (
  λ m.
      let above = m.above in
      let below = m.below in
      record { from = grind (arith, ints); to = grind (arith, ints) },
  λ a.
      let before = a.from in
      let behind = a.to in
      record { above = grind (arith, ints); below = grind (arith, ints) },
)

pub along_down : (from to ext_from ext_to low high : ℤ) → to <ℤ from → low ≡ to -ℤ ext_to → high ≡ from +ℤ ext_from
    → RunsAlong from to ext_from ext_to (ends low high)
along_down from to ext_from ext_to low high down l h z = (
  λ m.
      let above = m.above in
      let below = m.below in
      record { from = grind (arith, ints); to = grind (arith, ints) },
  λ a.
      let before = a.from in
      let behind = a.to in
      record { above = grind (arith, ints); below = grind (arith, ints) },
)

pub horizontal_points : (from to : PointModel) (width ext_from ext_to : ℤ) (r : RectModel) → from ≢ to → from.y ≡ to.y
    → RunsAlong from.x to.x ext_from ext_to (ends r.x1 r.x2) → RunsAcross from.y width (ends r.y1 r.y2) → (p : PointModel)
    → HasPoint r p ↔ (IsOfHorizontal from to width ext_from ext_to p ⊎ IsOfVertical from to width ext_from ext_to p)
horizontal_points from to width ext_from ext_to r long level along across p = (
  λ m. inl (record {
    level = level;
    along = (along p.x).0 (record { above = m.left; below = m.right });
    across = (across p.y).0 (record { above = m.bottom; below = m.top });
  }),
  λ s. elim s [
    | inl h ↦
        let x = (along p.x).1 h.along in
        let y = (across p.y).1 h.across in
        record { left = x.above; right = x.below; bottom = y.above; top = y.below }
    | inr v ↦ absurd (long (same_spot from.x from.y to.x to.y v.upright level))
  ],
)

pub vertical_points : (from to : PointModel) (width ext_from ext_to : ℤ) (r : RectModel) → from.x ≡ to.x → from.y ≢ to.y
    → RunsAcross from.x width (ends r.x1 r.x2) → RunsAlong from.y to.y ext_from ext_to (ends r.y1 r.y2) → (p : PointModel)
    → HasPoint r p ↔ (IsOfHorizontal from to width ext_from ext_to p ⊎ IsOfVertical from to width ext_from ext_to p)
vertical_points from to width ext_from ext_to r upright long across along p = (
  λ m. inr (record {
    upright = upright;
    along = (along p.y).0 (record { above = m.bottom; below = m.top });
    across = (across p.x).0 (record { above = m.left; below = m.right });
  }),
  λ s. elim s [
    | inl h ↦ absurd (long h.level)
    | inr v ↦
        let x = (across p.x).1 v.across in
        let y = (along p.y).1 v.along in
        record { left = x.above; right = x.below; bottom = y.above; top = y.below }
  ],
)

-- the rectangle of an interval along x and one along y
abbrev pub sides_of : Interval → Interval → RectModel
sides_of x y = sides x.low y.low x.high y.high

pub IsRect-sides_of : (x y : Interval) → IsSpan x → IsSpan y → IsRect (sides_of x y)
IsRect-sides_of x y wide high = record { x1 = wide.low; y1 = high.low; x2 = wide.high; y2 = high.high; wide = wide.long; high = high.long }

-- the same from registers
abbrev kept_sides : Interval → Interval → RectModel
kept_sides x y = sides (to_z w64 (of_z w64 x.low)) (to_z w64 (of_z w64 y.low)) (to_z w64 (of_z w64 x.high)) (to_z w64 (of_z w64 y.high))

kept_sides-is : (x y : Interval) → IsSpan x → IsSpan y → kept_sides x y ≡ sides_of x y
kept_sides-is x y wide high =
    same_sides _ _ _ _ _ _ _ _ (coordinate_kept x.low _ refl wide.low) (coordinate_kept y.low _ refl high.low) (coordinate_kept x.high _ refl wide.high)
    (coordinate_kept y.high _ refl high.high)

-- what is made just where the rectangle is one, is there where both intervals have length
pub is_made : (made : Option RectModel) (x y : Interval) → IsSpan x → IsSpan y → SomeIff made (IsRect (kept_sides x y)) (kept_sides x y) → IsSome made
is_made made x y wide high says = there_where made _ _ says (rw (kept_sides-is x y wide high) (IsRect-sides_of x y wide high))

-- and is that rectangle
pub made_is : (made : Option RectModel) (r : RectModel) (x y : Interval) → IsSpan x → IsSpan y → SomeIff made (IsRect (kept_sides x y)) (kept_sides x y)
    → made ≡ Some r → r ≡ sides_of x y
made_is made r x y wide high says is = value_there made _ _ r says is ∙ kept_sides-is x y wide high
