-- The marks of nodes. A node goes by its number.
use Rattle.std.specs.Prelude.{◌≡◌, ℕ, ◌<◌, Bool, true, false, List, length, Some, slice_get, All, Contains}
use Rattle.leg_route_search.specs.declared.mark.Mark.{Mark}
use Rattle.leg_route_search.specs.declared.mark.Mark.TheVariants.{Unseen, Shut, Reached, Far}

abbrev pub is_unseen : Mark → Bool
is_unseen Unseen = true
is_unseen Shut = false
is_unseen (Reached level from) = false
is_unseen (Far steps) = false

-- No node is marked.
abbrev pub AreUnseen : List Mark → Type 0
AreUnseen marks = All (λ m. m ≡ Unseen) marks

-- The node is marked so, and not unseen.
pub record IsMark (marks : List Mark) (a : ℕ) (m : Mark) : Type 0 where
  pub is : slice_get marks a ≡ Some m
  pub seen : is_unseen m ≡ false

-- The node has a mark.
abbrev pub IsSeen : List Mark → ℕ → Type 0
IsSeen marks a = (m : Mark) × IsMark marks a m

-- The node is reached at this level.
abbrev pub IsAt : List Mark → ℕ → ℕ → Type 0
IsAt marks a level = (from : ℕ) × IsMark marks a (Reached level from)

-- Each node that has a mark is noted, and only nodes are.
pub record IsNoted (marks : List Mark) (noted : List ℕ) : Type 0 where
  pub each : (a : ℕ) (m : Mark) → IsMark marks a m → Contains noted a
  pub within : (a : ℕ) → Contains noted a → a < length marks
