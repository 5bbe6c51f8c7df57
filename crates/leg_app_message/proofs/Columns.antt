-- A fold over the front of a list.
use Rattle.std.proofs.Common.{◌≡◌, ℕ, zero, suc, ◌+◌, List, [], ◌∷◌, take, Some, slice_get, ap}
use Rattle.std.specs.List.{fold}
use Rattle.std.proofs.Math.Numerals.{unary_clauses}
use Rattle.std.proofs.lemmas.Option.{same_Some, none-some}

one_more : {A B : Type 0} (f : B → A → B) (b : B) (xs : List A) (k : ℕ) (x : A) → slice_get xs k ≡ Some x
    → fold f b (take (suc k) xs) ≡ f (fold f b (take k xs)) x
one_more f b [] k x there = absurd (none-some x there)
one_more f b (y ∷ xs) zero x there = ap (f b) (same_Some y x there)
one_more f b (y ∷ xs) (suc k) x there = one_more f (f b y) xs k x there

-- a fold over one element more
pub fold_more : {A B : Type 0} (f : B → A → B) (b : B) (xs : List A) (k : ℕ) (x : A) → slice_get xs k ≡ Some x
    → fold f b (take (k + 1) xs) ≡ f (fold f b (take k xs)) x
fold_more f b xs k x there = simp unary_clauses (one_more f b xs k x there)
