-- What a place of a maze knows of its neighbours.
use Rattle.std.specs.Prelude.{◌≡◌, ℕ, ◌+◌, ◌<◌, ◌≤◌, Bool, true, List, length, Option, Some, None, slice_index_or}
use Rattle.leg_rules.specs.declared.side.Side.{Side}
use Rattle.leg_route_search.specs.Steps.Side.{opposite, across_twice}
use Rattle.leg_rules.specs.declared.side.Side.TheVariants.{West, East, South, North, Below, Above}
use Rattle.test_route_search.specs.declared.maze.Place.{Place}

-- a place without neighbours, for a number that none has
abbrev pub nowhere : Place
nowhere = record {
  west = None;
  east = None;
  south = None;
  north = None;
  below = None;
  above = None;
  is_open = true;
  opens_west = true;
  opens_east = true;
  gone = 0;
  left = 0;
}

abbrev pub numbered_place : List Place → ℕ → Place
numbered_place places a = slice_index_or places a nowhere

abbrev pub next_of : Place → Side → Option ℕ
next_of p West = p.west
next_of p East = p.east
next_of p South = p.south
next_of p North = p.north
next_of p Below = p.below
next_of p Above = p.above

abbrev pub opens_to : Place → Side → Bool
opens_to p West = p.opens_west
opens_to p East = p.opens_east
opens_to p South = true
opens_to p North = true
opens_to p Below = true
opens_to p Above = true

-- The neighbour on this side is a place, at most one step nearer to the goal and one further from the start.
abbrev pub IsLinked : List Place → Side → ℕ → ℕ → Type 0
IsLinked places side a b =
    (next_of (numbered_place places a) side ≡ Some b) × (b < length places) × ((numbered_place places a).left ≤ (numbered_place places b).left + 1)
    × ((numbered_place places b).gone ≤ (numbered_place places a).gone + 1)

-- And the place is the neighbour's on the other side.
pub record IsNext (places : List Place) (side : Side) (a b : ℕ) : Type 0 where
  pub there : IsLinked places side a b
  pub back : IsLinked places (opposite side) b a

-- the same, seen from the neighbour
pub next_both_ways : (places : List Place) (side : Side) (a b : ℕ) → IsNext places side a b → IsNext places (opposite side) b a
next_both_ways places side a b next = record { there = next.back; back = across_twice (λ (s : Side). IsLinked places s a b) side next.there }
