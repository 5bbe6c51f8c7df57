-- How one piece more is joined to those of a net: the sets with a number more, and the pairs of metal that are taken for it.
use Rattle.std.specs.Prelude.{◌≡◌, ◌⊎◌, ℕ, ◌+◌, ◌≤◌, ◌<◌, ℤ, List, [], All, Contains, length, get_or, map, take, None}
use Rattle.std.specs.List.Sorted.{IsNonDecreasingBy}
use Rattle.leg_geom.specs.Plane.{RectModel}
use Rattle.leg_sweep.specs.Pairs.{TakesAll}
use Rattle.leg_geom.specs.Pairs.{IsPair}
use Rattle.leg_wire.specs.declared.corner.Beside.{Beside}
use Rattle.leg_wire.specs.declared.piece_shape.PieceShape.{PieceShape}
use Rattle.leg_wire.specs.Steps.MeetingRule.{DoMeet}
use Rattle.leg_wire.specs.Steps.NumberSets.{AreTogether, AreGroups}
use Rattle.leg_wire.specs.Steps.SharedPoints.{first_seen}
use Rattle.leg_wire.specs.Steps.JoinSteps.{TakesPair, HavePlaces, AreSetsOf}

-- there is one number more, which is with itself alone
pub record HasOneNumberMore (before after : List ℕ) : Type 0 where
  pub count : length after ≡ length before + 1
  pub kept : (a b : ℕ) → AreTogether before a b → AreTogether after a b
  pub no_more : (a b : ℕ) → AreTogether after a b → AreTogether before a b ⊎ (a ≡ b)

-- the rectangles of the first so many shapes
abbrev pub first_rects : ℕ → List PieceShape → List RectModel
first_rects count shapes = map (λ shape. shape.rect) (take count shapes)

-- Pairs of one of the first `few` shapes and one from these on and below `end`, which meet, were taken: all of them, and no other.
pub record TakesNew (shapes : List PieceShape) (few first end : ℕ) (sets sets_after : List ℕ) (seen seen_after : List (Beside × (ℤ × ℤ))) : Type 0 where
  pub found : List (ℕ × ℕ)
  pub each : All (IsPair DoMeet shapes) found
  pub all : (j k : ℕ) → j < few → first ≤ k → k < end → IsPair DoMeet shapes (j, k) → Contains found (j, k)
  pub taken : TakesAll TakesPair (record { shapes = shapes; sets = sets; seen = seen }) found (record { shapes = shapes; sets = sets_after; seen = seen_after })

-- No point was seen at first, and then all pairs of one of the first `few` shapes and one after them, which meet, were taken.
pub record JoinsNew (shapes : List PieceShape) (few : ℕ) (sets sets_after : List ℕ) : Type 0 where
  pub seen : List (Beside × (ℤ × ℤ))
  pub seen_after : List (Beside × (ℤ × ℤ))
  pub unseen : (pieces : Beside) → first_seen seen pieces ≡ None
  pub takes : TakesNew shapes few few (length shapes) sets sets_after seen seen_after

-- The sets are those of this metal, which is in the order of its pieces, each of these is in one set and in the list of its members, and the
-- index has the rectangles of the first shapes. So many members of the first set were given.
pub record IsKeptSet (metal : List PieceShape) (index : List RectModel) (sets : List ℕ) (lists : List (List ℕ)) (given : ℕ) : Type 0 where
  pub sets_are : AreSetsOf metal (length sets) sets
  pub places : HavePlaces sets metal
  pub within : length index ≤ length metal
  pub first : index ≡ first_rects (length index) metal
  pub in_order : IsNonDecreasingBy (λ shape. shape.piece) metal
  pub listed : AreGroups sets lists
  pub few : given ≤ length (get_or lists 0 [])
