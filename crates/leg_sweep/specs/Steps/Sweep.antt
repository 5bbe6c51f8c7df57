-- What a sweep from left to right knows on its way. Items go by their numbers.
use Rattle.std.specs.Prelude.{◌≡◌, ◌≢◌, ℕ, ◌≤◌, ◌<◌, min, max, Bool, ℤ, pos, ◌≤ℤ◌, List, length, Some, slice_get, slice_index, slice_index_or, All, AllPairs, Contains, IsPermutation}
use Rattle.std.specs.Ordering.{nat_cmp, ordering_then}
use Rattle.std.specs.declared.cmp.Ordering.{Ordering}
use Rattle.std.specs.List.{range_with_len}
use Rattle.leg_geom.specs.Plane.{RectModel, IsRect}
use Rattle.leg_geom.specs.Gap.{x_gap, y_gap}
use Rattle.leg_sweep.specs.Pairs.{TakesAll}

-- a rectangle for a number that no item has
abbrev pub unit_square : RectModel
unit_square = record { x1 = pos 0; y1 = pos 0; x2 = pos 1; y2 = pos 1 }

-- the rectangle with the number
abbrev pub rect_numbered : List RectModel → ℕ → RectModel
rect_numbered rects i = slice_index_or rects i unit_square

-- a test of two rectangles by their numbers
abbrev pub test_at : (RectModel → RectModel → Bool) → List RectModel → ℕ → ℕ → Bool
test_at test rects i j = test (rect_numbered rects i) (rect_numbered rects j)

-- what the items are sorted by: the left edge, and then the number
abbrev pub key_at : List RectModel → ℕ → ℤ × ℕ
key_at rects i = ((rect_numbered rects i).x1, i)

-- two numbers, the lower one first
abbrev pub ordered : ℕ → ℕ → ℕ × ℕ
ordered a b = (min a b, max a b)

-- how two pairs of numbers compare: by the first, then by the second
abbrev pub pair_cmp : ℕ × ℕ → ℕ × ℕ → Ordering
pair_cmp p q = ordering_then (nat_cmp p.0 q.0) (nat_cmp p.1 q.1)

-- the numbers of all rectangles, each once, in the order of their left edges
pub record IsLeftToRight (rects : List RectModel) (order : List ℕ) : Type 0 where
  pub proper : All IsRect rects
  pub numbers : IsPermutation (range_with_len 0 (length rects)) order
  pub rising : (a b : ℕ) → a ≤ b → b < length order → (rect_numbered rects (slice_index order a)).x1 ≤ℤ (rect_numbered rects (slice_index order b)).x1

-- If the rule holds of the items with these numbers, their gaps are within the reach.
abbrev pub AreInReach : {Item : Type 0} → (Item → Item → Type 0) → (Item → RectModel) → List Item → ℕ → ℕ → ℕ → Type 0
AreInReach {Item} Holds rect_of items reach x y =
    (a b : Item) → slice_get items x ≡ Some a → slice_get items y ≡ Some b → Holds a b
    → (x_gap (rect_of a) (rect_of b) ≤ reach) × (y_gap (rect_of a) (rect_of b) ≤ reach)

-- waiting items, each once, and a new one that is none of them
pub record CanMeet {Item : Type 0} (Holds : Item → Item → Type 0) (rect_of : Item → RectModel) (items : List Item) (reach : ℕ) (waiting : List ℕ)
    (new : ℕ) : Type 0 where
  pub new_in : new < length items
  pub waiting_in : All (λ x. x < length items) waiting
  pub others : All (λ x. x ≢ new) waiting
  pub apart : AllPairs (λ x y. x ≢ y) waiting
  pub in_reach : All (λ x. AreInReach Holds rect_of items reach x new) waiting

-- The sink took the pairs that a new item makes with waiting ones, each once. They are no more than the tests that were made.
pub record AreNewPairs {Sink : Type 0} (Takes : Sink → ℕ × ℕ → Sink → Type 0) (IsOne : ℕ × ℕ → Type 0) (waiting : List ℕ) (new tests : ℕ)
    (before after : Sink) : Type 0 where
  pub more : List (ℕ × ℕ)
  pub taken : TakesAll Takes before more after
  pub each : All IsOne more
  pub named : All (λ p. (x : ℕ) × Contains waiting x × (p ≡ ordered x new)) more
  pub distinct : AllPairs (λ p q. p ≢ q) more
  pub all : (x : ℕ) → Contains waiting x → IsOne (ordered x new) → Contains more (ordered x new)
  pub enough : length more ≤ tests
