-- The unit squares inside a closed walk whose sides are horizontal or vertical. A unit square is named by its lower left corner.
use Rattle.std.specs.Prelude.{◌&&◌, ◌==◌, ◌%◌, Bool, true, false, not, List, ℤ, int_lt, int_le, count_by}
use Rattle.leg_geom.specs.Plane.{PointModel}

-- an odd number of the elements pass the test
unfoldable pub is_odd : {X : Type 0} → (X → Bool) → List X → Bool
is_odd test xs = count_by test xs % 2 == 1

-- one of the two holds, and the other doesn't
abbrev pub differ : Bool → Bool → Bool
differ true b = not b
differ false b = b

-- the point lies above the line
abbrev pub is_above : ℤ → PointModel → Bool
is_above line point = int_lt line point.y

-- the side goes through the row of unit squares that stands on the line: one of its points lies above the line, and the other doesn't
abbrev pub crosses : ℤ → PointModel × PointModel → Bool
crosses line side = differ (is_above line side.0) (is_above line side.1)

-- the side lies to the west of the unit square, in its row
abbrev pub is_west : PointModel → PointModel × PointModel → Bool
is_west square side = crosses square.y side && int_le side.0.x square.x

-- the unit square is inside the walk: an odd number of the walk's vertical sides lie to the west of it, in its row
abbrev pub is_inside : List (PointModel × PointModel) → PointModel → Bool
is_inside walk square = is_odd (is_west square) walk
