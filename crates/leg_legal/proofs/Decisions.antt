-- Facts that hold or don't, and the least number with a property.
use Rattle.std.proofs.Common.{◌≡◌, ◌⊎◌, ℕ, zero, suc, ◌<◌, ℤ, Bool, true, false, List, [], ◌∷◌, length, get_or, Option, None, Some, slice_get, All, Contains, IsTrue, inl, inr, refl, arith}
use Rattle.std.proofs.lemmas.Bool.{cases_lt, cases_eq, false≢true}
use Rattle.std.proofs.lemmas.Int.{ints, by_lt_z}
use Rattle.std.proofs.lemmas.List.Elements.{All-nil, All-cons, All-head, All-tail}
use Rattle.std.proofs.lemmas.Option.{none-some}

-- a fact holds, or it doesn't
abbrev pub HoldsOrNot : Type 0 → Type 0
HoldsOrNot P = P ⊎ (P → ⊥)

module _ {P Q : Type 0} where
  -- of a fact that another one is as good as
  pub by_other : (P → Q) → (Q → P) → HoldsOrNot P → HoldsOrNot Q
  by_other there back (inl p) = inl (there p)
  by_other there back (inr never) = inr (λ q. never (back q))

  pub both_or_not : HoldsOrNot P → HoldsOrNot Q → HoldsOrNot (P × Q)
  both_or_not (inl p) (inl q) = inl (p, q)
  both_or_not (inl p) (inr never) = inr (λ both. never both.1)
  both_or_not (inr never) q = inr (λ both. never both.0)

  pub either_or_not : HoldsOrNot P → HoldsOrNot Q → HoldsOrNot (P ⊎ Q)
  either_or_not (inl p) q = inl (inl p)
  either_or_not (inr never) (inl q) = inl (inr q)
  either_or_not (inr never) (inr none) = inr (elim [ inl p ↦ never p | inr q ↦ none q ])

pub never_or_not : {P : Type 0} → HoldsOrNot P → HoldsOrNot (P → ⊥)
never_or_not (inl p) = inr (λ never. never p)
never_or_not (inr never) = inl never

pub true_or_not : (b : Bool) → HoldsOrNot (IsTrue b)
true_or_not true = inl refl
true_or_not false = inr false≢true

pub less_or_not : (m n : ℕ) → HoldsOrNot (m < n)
less_or_not m n = elim (cases_lt m n) [ inl below ↦ inl below | inr upto ↦ inr (λ below. omega arith) ]

-- two whole numbers are equal or not
pub same_or_not : (a b : ℤ) → HoldsOrNot (a ≡ b)
same_or_not a b =
    by_lt_z a b
    (λ below. inr (λ same. omega (arith, ints)))
    (λ upto. by_lt_z b a
    (λ above. inr (λ same. omega (arith, ints)))
    (λ both. inl (omega (arith, ints))))

module _ {X : Type 0} where
  -- there is something, or nothing
  pub some_or_not : (any : Option X) → HoldsOrNot ((x : X) × (any ≡ Some x))
  some_or_not None = inr (λ some. none-some some.0 some.1)
  some_or_not (Some x) = inl (x, refl)

  -- something stands at a number of a list, or nothing does
  pub there_or_not : (xs : List X) (k : ℕ) → HoldsOrNot ((x : X) × (slice_get xs k ≡ Some x))
  there_or_not xs k = some_or_not (slice_get xs k)

-- all elements of a list have a property or not
pub all_or_not : {X : Type 0} (P : X → Type 0) → ((x : X) → HoldsOrNot (P x)) → (xs : List X) → HoldsOrNot (All P xs)
all_or_not P each [] = inl (All-nil P)
all_or_not P each (x ∷ xs) =
    by_other (λ both. All-cons P x xs both.0 both.1) (λ all. (All-head P x xs all, All-tail P x xs all))
    (both_or_not (each x) (all_or_not P each xs))

-- the least number below the end with a property
pub record IsLeastBelow (P : ℕ → Type 0) (end k : ℕ) : Type 0 where
  pub below : k < end
  pub holds : P k
  pub least : (j : ℕ) → j < k → P j → ⊥

module _ (P : ℕ → Type 0) (each : (k : ℕ) → HoldsOrNot (P k)) where
  -- there is one, or no number below the end has it
  pub least_below : (end : ℕ) → ((k : ℕ) × IsLeastBelow P end k) ⊎ ((k : ℕ) → k < end → P k → ⊥)
  least_below zero = inr (λ k below p. omega arith)
  least_below (suc end) =
      elim (least_below end) [
        | inl (k, is) ↦ inl (k, record { below = omega (arith, is.below); holds = is.holds; least = is.least })
        | inr none ↦ elim (each end) [
          | inl here ↦ inl (end, record { below = omega arith; holds = here; least = none })
          | inr not_here ↦ inr (λ k below p. elim (cases_lt k end) [
            | inl earlier ↦ none k earlier p
            | inr late ↦ let is : k ≡ end = omega arith in not_here (rw is at p)
          ])
        ]
      ]

  -- some number below the end has it, or none does
  pub some_below : (end : ℕ) → HoldsOrNot ((k : ℕ) × (k < end) × P k)
  some_below end =
      elim (least_below end) [
        | inl (k, is) ↦ inl (k, is.below, is.holds)
        | inr none ↦ inr (λ some. none some.0 some.1 some.2)
      ]

-- a list has a number or not
pub contains_or_not : (xs : List ℕ) (x : ℕ) → HoldsOrNot (Contains xs x)
contains_or_not xs x =
    by_other (λ s. (s.0, s.1, s.2)) (λ s. (s.0, s.1, s.2)) (some_below (λ k. get_or xs k x ≡ x) (λ k. cases_eq (get_or xs k x) x) (length xs))
