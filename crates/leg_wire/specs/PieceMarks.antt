-- Which pieces of a net touch, and which are joined (lefdef's own rules).
use Rattle.std.specs.Prelude.{◌≡◌, ◌↔◌, ◌<◌, ◌≤◌, ℕ, Bool, IsTrue, List, length, Some, slice_get}

-- a mark for each of this many pieces, set exactly where the piece is one of these
pub record AreMarks (Marked : ℕ → Type 0) (size : ℕ) (marks : List Bool) : Type 0 where
  pub count : length marks ≡ size
  pub each : (k : ℕ) (mark : Bool) → slice_get marks k ≡ Some mark → IsTrue mark ↔ Marked k

-- piece k is joined to the piece `first`, and to no lower one of this many pieces
pub record IsLeastJoined (IsJoined : ℕ → ℕ → Type 0) (size k first : ℕ) : Type 0 where
  pub within : first < size
  pub joined : IsJoined k first
  pub least : (j : ℕ) → j < size → IsJoined k j → first ≤ j

-- for each of this many pieces the least one that it is joined to
pub record AreFirsts (IsJoined : ℕ → ℕ → Type 0) (size : ℕ) (firsts : List ℕ) : Type 0 where
  pub count : length firsts ≡ size
  pub each : (k first : ℕ) → slice_get firsts k ≡ Some first → IsLeastJoined IsJoined size k first
