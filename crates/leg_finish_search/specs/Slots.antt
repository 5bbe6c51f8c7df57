-- Slots by their numbers (lefdef's own rule).
use Rattle.std.specs.Prelude.{ℕ, ◌<◌, List, All}

-- these are numbers of slots of a grid of this size
abbrev pub AreSlots : ℕ → List ℕ → Type 0
AreSlots size numbers = All (λ n. n < size) numbers

-- the same of lists of lists
abbrev pub AreSlotLists : ℕ → List (List ℕ) → Type 0
AreSlotLists size lists = All (AreSlots size) lists
