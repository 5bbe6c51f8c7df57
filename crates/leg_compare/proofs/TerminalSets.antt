-- Whether a terminal by its names is in the one list just when it is in the other can be told.
use Rattle.std.proofs.Common.{◌≡◌, ◌≢◌, ◌↔◌, Bool, true, false, not, IsTrue, refl, ℕ, zero, suc, ◌<◌, ◌⊎◌, inl, inr, List, [], ◌∷◌, length, get_or, subst, arith}
use Rattle.std.specs.List.{All, Contains}
use Rattle.std.proofs.lemmas.List.Elements.{All-nil, All-cons, All-head, All-tail, All-contains, Contains-get_or}
use base.Stored.{coded_ℕ, coded_list, coded×}
use Rattle.leg_rules.specs.Compare.Spelling.{AreSameTerminals}
use Rattle.leg_compare.proofs.Codes.{told}

-- the other answer
pub not_same : {P : Type 0} (b : Bool) → IsTrue b ↔ P → IsTrue (not b) ↔ (¬ P)
not_same true h = (λ e. absurd (let no : ⊥ = cc in no), λ never. absurd (never (h.0 refl)))
not_same false h = (λ e p. let yes : false ≡ true = h.1 p in let no : ⊥ = cc in no, λ never. refl)

-- equal lists have the same terminals
pub same_if_equal : (xs ys : List (List ℕ × List ℕ)) → xs ≡ ys → AreSameTerminals xs ys
same_if_equal xs ys is = subst (AreSameTerminals xs) is (λ t. (λ h. h, λ h. h))

one_told : (x y : List ℕ × List ℕ) → (x ≡ y) ⊎ (x ≢ y)
one_told x y = told (coded× (coded_list coded_ℕ) (coded_list coded_ℕ)) x y

there_told : (xs : List (List ℕ × List ℕ)) (t : List ℕ × List ℕ) → Contains xs t ⊎ (¬ Contains xs t)
there_told [] t = inr (λ h. absurd (omega (arith, h.1)))
there_told (x ∷ xs) t = by (one_told x t) (there_told xs t) where
  nowhere : (x ≢ t) → (¬ Contains xs t) → (k : ℕ) → k < length (x ∷ xs) → get_or (x ∷ xs) k t ≡ t → ⊥
  nowhere other none zero within is = other is
  nowhere other none (suc k) within is = none (k, omega (arith, within), is)

  by : (x ≡ t) ⊎ (x ≢ t) → Contains xs t ⊎ (¬ Contains xs t) → Contains (x ∷ xs) t ⊎ (¬ Contains (x ∷ xs) t)
  by (inl is) rest = inl (0, omega arith, is)
  by (inr other) (inl h) = inl (suc h.0, omega (arith, h.1), h.2)
  by (inr other) (inr none) = inr (λ h. nowhere other none h.0 h.1 h.2)

all_told : (xs ys : List (List ℕ × List ℕ)) → All (Contains ys) xs ⊎ (¬ All (Contains ys) xs)
all_told [] ys = inl (All-nil (Contains ys))
all_told (x ∷ xs) ys = by (there_told ys x) (all_told xs ys) where
  by : Contains ys x ⊎ (¬ Contains ys x) → All (Contains ys) xs ⊎ (¬ All (Contains ys) xs) → All (Contains ys) (x ∷ xs) ⊎ (¬ All (Contains ys) (x ∷ xs))
  by (inl one) (inl rest) = inl (All-cons (Contains ys) x xs one rest)
  by (inl one) (inr not) = inr (λ all. not (All-tail (Contains ys) x xs all))
  by (inr not) rest = inr (λ all. not (All-head (Contains ys) x xs all))

pub terminals_told : (xs ys : List (List ℕ × List ℕ)) → AreSameTerminals xs ys ⊎ (¬ AreSameTerminals xs ys)
terminals_told xs ys = by (all_told xs ys) (all_told ys xs) where
  by : All (Contains ys) xs ⊎ (¬ All (Contains ys) xs) → All (Contains xs) ys ⊎ (¬ All (Contains xs) ys) → AreSameTerminals xs ys ⊎ (¬ AreSameTerminals xs ys)
  by (inl there) (inl back) = inl (λ t. (λ h. All-contains (Contains ys) xs t there h, λ h. All-contains (Contains xs) ys t back h))
  by (inl there) (inr not) = inr (λ same. not (λ k d within. (same (get_or ys k d)).1 (Contains-get_or ys k d within)))
  by (inr not) back = inr (λ same. not (λ k d within. (same (get_or xs k d)).0 (Contains-get_or xs k d within)))
