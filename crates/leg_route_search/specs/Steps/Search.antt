-- A search on its way, with all nodes marked up to some level.
use Rattle.std.specs.Prelude.{◌≡◌, ◌⊎◌, ℕ, ◌+◌, ◌<◌, ◌≤◌, Bool, true, false, List, length, count_by, Contains, Option, Some, None}
use Rattle.leg_route_search.specs.declared.mark.Mark.{Mark}
use Rattle.leg_route_search.specs.declared.mark.Mark.TheVariants.{Shut, Reached, Far}
use Rattle.leg_rules.specs.Route.Walk.{Walk, IsShortest, NoWalk}
use Rattle.leg_route_search.specs.Steps.Marks.{is_unseen, IsMark, IsAt}

-- a node from which a walk enters one at a level
pub record IsLink (Step : ℕ → ℕ → Type 0) (marks : List Mark) (level from a : ℕ) : Type 0 where
  pub below : ℕ
  pub level_is : level ≡ below + 1
  pub from_at : IsAt marks from below
  pub step : Step from a

-- A reached node is open, and is a start at level 0 or entered from a node of the level below.
abbrev pub AreLinked : (ℕ → Type 0) → (ℕ → ℕ → Type 0) → (ℕ → Type 0) → List Mark → Type 0
AreLinked Open Step Start marks =
    (a level from : ℕ) → IsMark marks a (Reached level from) → Open a × (((level ≡ 0) × Start a) ⊎ IsLink Step marks level from a)

-- All nodes up to level d are marked, but for those that are too far from the ends for the limit, and those at d are in front.
pub record IsSearchSoFar (Open : ℕ → Type 0) (Step : ℕ → ℕ → Type 0) (Start End : ℕ → Type 0) (bound : ℕ → ℕ)
    (limit d : ℕ) (marks : List Mark) (front : List ℕ) (left : Bool) : Type 0 where
  pub linked : AreLinked Open Step Start marks
  pub shut : (a : ℕ) → IsMark marks a Shut → Open a → ⊥
  pub none_far : (a steps : ℕ) → IsMark marks a (Far steps) → ⊥
  pub begun : (a : ℕ) → Start a → Open a → (left ≡ true → bound a ≤ limit) → IsAt marks a 0
  pub low : (a level : ℕ) → IsAt marks a level → (level ≤ d) × (level ≤ limit)
  pub in_front : (a : ℕ) → IsAt marks a d → Contains front a
  pub front_at : (a : ℕ) → Contains front a → IsAt marks a d
  pub followed : (a b level : ℕ) → IsAt marks a level → level < d → Step a b → Open b → (left ≡ true → level + 1 + bound b ≤ limit)
      → (j : ℕ) × IsAt marks b j × (j ≤ level + 1)
  pub no_end : (a level : ℕ) → IsAt marks a level → level < d → End a → ⊥
  pub few : d + count_by is_unseen marks + length front ≤ length marks

-- an end at a level that no walk from a start to an end falls short of
pub record IsNearestSoFar (Open : ℕ → Type 0) (Step : ℕ → ℕ → Type 0) (Start End : ℕ → Type 0) (marks : List Mark) (end : ℕ) : Type 0 where
  pub level : ℕ
  pub is_end : End end
  pub end_at : IsAt marks end level
  pub linked : AreLinked Open Step Start marks
  pub least : (a b : ℕ) (nodes : List ℕ) → Start a → End b → Walk Open Step a nodes b → level + 1 ≤ length nodes

-- what a search within a limit finds: a nearest end, or none, and then there is no walk unless a node was left out
abbrev pub IsFound : (ℕ → Type 0) → (ℕ → ℕ → Type 0) → (ℕ → Type 0) → (ℕ → Type 0) → List Mark → Bool → Option ℕ → Type 0
IsFound Open Step Start End marks left None = left ≡ false → NoWalk Open Step Start End
IsFound Open Step Start End marks left (Some end) = IsNearestSoFar Open Step Start End marks end

-- the nodes of a shortest walk, or none where there is no walk
abbrev pub IsShortestIfAny : {Node : Type 0} → (Node → Type 0) → (Node → Node → Type 0) → (Node → Type 0) → (Node → Type 0) → Option (List Node) → Type 0
IsShortestIfAny Open Step Start End None = NoWalk Open Step Start End
IsShortestIfAny Open Step Start End (Some nodes) = IsShortest Open Step Start End nodes

-- what a round finds: a shortest walk, or none, and then there is no walk unless a node was left out
abbrev pub IsRound : (ℕ → Type 0) → (ℕ → ℕ → Type 0) → (ℕ → Type 0) → (ℕ → Type 0) → Bool → Option (List ℕ) → Type 0
IsRound Open Step Start End left None = left ≡ false → NoWalk Open Step Start End
IsRound Open Step Start End left (Some nodes) = IsShortest Open Step Start End nodes
