-- Pairs of the items of a list.
use Rattle.std.specs.Prelude.{◌≡◌, ℕ, ◌<◌, List, Some, slice_get}

-- two items by their numbers, the lower number first, for which the rule holds
pub record IsPair {Item : Type 0} (Holds : Item → Item → Type 0) (items : List Item) (p : ℕ × ℕ) : Type 0 where
  pub a : Item
  pub b : Item
  pub a_at : slice_get items p.0 ≡ Some a
  pub b_at : slice_get items p.1 ≡ Some b
  pub in_order : p.0 < p.1
  pub holds : Holds a b
