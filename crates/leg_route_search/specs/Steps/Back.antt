-- The way back from an end, along the nodes from which each was entered.
use Rattle.std.specs.Prelude.{◌≡◌, ◌⊎◌, ℕ, ◌+◌, List, length}
use Rattle.leg_route_search.specs.declared.mark.Mark.{Mark}
use Rattle.leg_route_search.specs.declared.mark.Mark.TheVariants.{Reached}
use Rattle.leg_rules.specs.Route.Walk.{Walk}
use Rattle.leg_route_search.specs.Steps.Marks.{IsMark, IsAt}

-- The node is reached.
abbrev pub IsReached : List Mark → ℕ → Type 0
IsReached marks a = (level : ℕ) × IsAt marks a level

-- The second node was entered from the first.
abbrev pub IsEntry : List Mark → ℕ → ℕ → Type 0
IsEntry marks a b = (below : ℕ) × IsMark marks b (Reached (below + 1) a)

-- Each reached node is at level 0, or was entered from one of the level below.
abbrev pub AreEntered : List Mark → Type 0
AreEntered marks = (a level from : ℕ) → IsMark marks a (Reached level from) → (level ≡ 0) ⊎ ((below : ℕ) × (level ≡ below + 1) × IsAt marks from below)

-- the nodes by which this one was reached, from one of level 0 on
pub record IsWay (marks : List Mark) (node : ℕ) (nodes : List ℕ) : Type 0 where
  pub from : ℕ
  pub level : ℕ
  pub begun : IsAt marks from 0
  pub node_at : IsAt marks node level
  pub count : length nodes ≡ level + 1
  pub way : Walk (IsReached marks) (IsEntry marks) from nodes node
