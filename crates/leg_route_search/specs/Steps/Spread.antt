-- How marks spread from one level to the next.
use Rattle.std.specs.Prelude.{◌≡◌, ◌⊎◌, ℕ, ◌+◌, ◌^◌, ◌<◌, ◌≤◌, Bool, true, List, [], ◌∷◌, ◌++◌, length, slice_set, count_by, Contains}
use Rattle.leg_route_search.specs.declared.mark.Mark.{Mark}
use Rattle.leg_route_search.specs.declared.mark.Mark.TheVariants.{Unseen, Shut, Reached, Far}
use Rattle.leg_route_search.specs.Steps.Marks.{is_unseen, IsMark, IsSeen, IsAt}

-- What a new mark of a node means: it is not open, or it is open, and some step that was tried leads to it.
abbrev pub IsNew : (ℕ → Type 0) → (ℕ → ℕ → Type 0) → ℕ → ℕ → List ℕ → ℕ → Mark → Type 0
IsNew Open Tried limit level next a Unseen = ⊥
IsNew Open Tried limit level next a Shut = Open a → ⊥
IsNew Open Tried limit level next a (Reached k from) = (k ≡ level) × (level ≤ limit) × Open a × Tried from a × Contains next a
IsNew Open Tried limit level next a (Far steps) = ⊥

-- Some steps to nodes of a level were tried: what is new in the marks and in the list of the level's nodes. `left` is
-- whether a node was left out, being too far from the ends for the limit.
pub record IsSpread (Open : ℕ → Type 0) (Tried : ℕ → ℕ → Type 0) (bound : ℕ → ℕ) (limit level : ℕ) (marks : List Mark) (next : List ℕ)
    (left : Bool) (marks2 : List Mark) (next2 : List ℕ) (left2 : Bool) : Type 0 where
  pub count : length marks2 ≡ length marks
  pub kept : (a : ℕ) (m : Mark) → IsMark marks a m → IsMark marks2 a m
  pub new : (a : ℕ) (m : Mark) → IsMark marks2 a m → IsMark marks a m ⊎ IsNew Open Tried limit level next2 a m
  pub tried : (a b : ℕ) → Tried a b → (left2 ≡ true → level + bound b ≤ limit) → IsSeen marks2 b
  pub left_kept : left ≡ true → left2 ≡ true
  pub left_low : left2 ≡ true → (left ≡ true) ⊎ (limit < 2 ^ 33)
  pub next_kept : (a : ℕ) → Contains next a → Contains next2 a
  pub next_more : (a : ℕ) → Contains next2 a → Contains next a ⊎ IsAt marks2 a level
  pub fewer : count_by is_unseen marks2 + length next2 ≤ count_by is_unseen marks + length next

-- A node that was unseen got this mark where it is open, and is shut where it isn't.
abbrev pub IsEntered : Type 0 → ℕ → Mark → List Mark → List ℕ → List Mark → List ℕ → Type 0
IsEntered IsOpen to mark marks next marks2 next2 =
    ((IsOpen → ⊥) × (marks2 ≡ slice_set marks to Shut) × (next2 ≡ next)) ⊎ (IsOpen × (marks2 ≡ slice_set marks to mark) × (next2 ≡ next ++ to ∷ []))
