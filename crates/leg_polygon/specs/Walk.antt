-- The closed walk through the points of a polygon (LEF/DEF 5.8, POLYGON). A side is a pair of points, from the first to the second.
use Rattle.std.specs.Prelude.{◌&&◌, ◌||◌, Bool, not, List, [], ◌∷◌, ◌++◌, ℤ, int_lt, map, filter}
use Rattle.std.specs.Ordering.{int_eq}
use Rattle.leg_geom.specs.Plane.{PointModel}

-- each of these elements, after the one before it
abbrev pub steps_from : {X : Type 0} → X → List X → List (X × X)
steps_from before [] = []
steps_from before (x ∷ xs) = (before, x) ∷ steps_from x xs

-- each element with the next one, and the last with the first
abbrev pub round : {X : Type 0} → List X → List (X × X)
round [] = []
round (x ∷ xs) = steps_from x (xs ++ x ∷ [])

-- the side has length: its points differ
abbrev pub has_length : PointModel × PointModel → Bool
has_length side = not (int_eq side.0.x side.1.x && int_eq side.0.y side.1.y)

-- the sides of the closed walk through the points: a point that is repeated is passed over
abbrev pub sides : List PointModel → List (PointModel × PointModel)
sides points = filter has_length (round points)

-- the number b lies between a and c, and is neither
abbrev pub is_between : ℤ → ℤ → ℤ → Bool
is_between a b c = (int_lt a b && int_lt b c) || (int_lt c b && int_lt b a)

-- three numbers are one
abbrev pub are_same : ℤ → ℤ → ℤ → Bool
are_same a b c = int_eq a b && int_eq b c

-- the point lies in the middle of a side that goes from one point to another, along the y or the x axis
abbrev pub is_in_middle : PointModel → PointModel → PointModel → Bool
is_in_middle from point to =
    (are_same from.x point.x to.x && is_between from.y point.y to.y) || (are_same from.y point.y to.y && is_between from.x point.x to.x)

-- a side, and the one after it, which begins where it ends: the walk turns there
abbrev pub turns : (PointModel × PointModel) × (PointModel × PointModel) → Bool
turns two = not (is_in_middle two.0.0 two.0.1 two.1.1)

-- the corners of the walk: its points, without those that are repeated or lie in the middle of a side
abbrev pub corners : List PointModel → List PointModel
corners points = map (λ two. two.0.1) (filter turns (round (sides points)))

-- the sides of the walk from corner to corner
abbrev pub walk : List PointModel → List (PointModel × PointModel)
walk points = sides (corners points)

-- the side is horizontal or vertical
abbrev pub is_straight : PointModel × PointModel → Bool
is_straight side = int_eq side.0.x side.1.x || int_eq side.0.y side.1.y
