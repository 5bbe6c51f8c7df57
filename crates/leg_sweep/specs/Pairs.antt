-- The list of the pairs of items for which a rule holds.
use Rattle.std.specs.Prelude.{◌≡◌, ◌≢◌, ℕ, ◌≤◌, ◌<◌, List, [], ◌∷◌, ◌++◌, length, All, AllPairs, Contains}
use Rattle.leg_geom.specs.Pairs.{IsPair}

-- Pairs of numbers in increasing order: by the first, then by the second.
pub record Before (p q : ℕ × ℕ) : Type 0 where
  pub first : p.0 ≤ q.0
  pub second : p.0 ≡ q.0 → p.1 < q.1

-- the strictly increasing list of exactly these pairs
pub record ArePairs {Item : Type 0} (Holds : Item → Item → Type 0) (items : List Item) (found : List (ℕ × ℕ)) : Type 0 where
  pub increasing : AllPairs Before found
  pub each : All (IsPair Holds items) found
  pub all : (p : ℕ × ℕ) → IsPair Holds items p → Contains found p

-- exactly these pairs, each once, in any order
pub record HasPairs {Item : Type 0} (Holds : Item → Item → Type 0) (items : List Item) (found : List (ℕ × ℕ)) : Type 0 where
  pub each : All (IsPair Holds items) found
  pub all : (p : ℕ × ℕ) → IsPair Holds items p → Contains found p
  pub distinct : AllPairs (λ p q. p ≢ q) found

-- A sink takes pairs one after another.
pub data TakesAll {Sink : Type 0} (Takes : Sink → ℕ × ℕ → Sink → Type 0) (before : Sink) : List (ℕ × ℕ) → Sink → Type 0 where
  none : TakesAll Takes before [] before
  more : {found : List (ℕ × ℕ)} {between after : Sink} {p : ℕ × ℕ} → TakesAll Takes before found between → Takes between p after
      → TakesAll Takes before (found ++ p ∷ []) after

-- A sink took exactly the pairs of items for which a rule holds, each once, in any order. They are no more than the tests that
-- were made.
pub record TookPairs {Sink Item : Type 0} (Takes : Sink → ℕ × ℕ → Sink → Type 0) (Holds : Item → Item → Type 0) (items : List Item) (tests : ℕ)
    (before after : Sink) : Type 0 where
  pub found : List (ℕ × ℕ)
  pub are : HasPairs Holds items found
  pub taken : TakesAll Takes before found after
  pub enough : length found ≤ tests
