-- Numbers put one after the other into a rising list.
use Rattle.std.proofs.Common.{◌≡◌, ℤ, ◌<ℤ◌, List, [], ◌∷◌, Bool, Contains, fold, ◌⊎◌, inl, inr, sym, ap, ◌∙◌}
use Rattle.leg_lemmas.proofs.Contents.{Contains-nil, Contains-here, Contains-there, Contains-cons_cases}
use Rattle.leg_lemmas.proofs.RisingLists.{AllPairs-nil}
use Rattle.leg_polygon.specs.Slab.{put_once, toggle}
use Rattle.leg_polygon.specs.Inside.{is_odd, differ}
use Rattle.leg_polygon.proofs.Parity.{is_odd-nil, is_odd-cons, differ_swap, differ_ordered, differ_twice, differ_none}
use Rattle.leg_polygon.proofs.RisingNumbers.{Rise, below, above, same, compared, toggle_from, toggle_rises, put_from, put_rises, put_keeps, same_numbers}

pub puts_rise : (zs es : List ℤ) → Rise es → Rise (fold put_once es zs)
puts_rise [] es rise = rise
puts_rise (z ∷ zs) es rise = puts_rise zs (put_once es z) (put_rises es z rise)

puts_from : (zs es : List ℤ) (x : ℤ) → Contains (fold put_once es zs) x → Contains es x ⊎ Contains zs x
puts_from [] es x c = inl c
puts_from (z ∷ zs) es x c = elim (puts_from zs (put_once es z) x c) [
  | inl put ↦ elim (put_from es z x put) [
    | inl is ↦ inr (rw (← is) (Contains-here z zs))
    | inr old ↦ inl old
  ]
  | inr later ↦ inr (Contains-there z zs x later)
]

puts_keep : (zs es : List ℤ) (x : ℤ) → Contains es x ⊎ Contains zs x → Contains (fold put_once es zs) x
puts_keep [] es x (inl old) = old
puts_keep [] es x (inr none) = absurd (Contains-nil x none)
puts_keep (z ∷ zs) es x (inl old) = puts_keep zs (put_once es z) x (inl (put_keeps es z x (inr old)))
puts_keep (z ∷ zs) es x (inr new) = elim (Contains-cons_cases z zs x new) [
  | inl is ↦ puts_keep zs (put_once es z) x (inl (put_keeps es z x (inl is)))
  | inr later ↦ puts_keep zs (put_once es z) x (inr later)
]

-- the numbers of a list in rising order
pub ordered_from : (zs : List ℤ) (x : ℤ) → Contains (fold put_once [] zs) x → Contains zs x
ordered_from zs x c = elim (puts_from zs [] x c) [ inl none ↦ absurd (Contains-nil x none) | inr new ↦ new ]

pub ordered_keeps : (zs : List ℤ) (x : ℤ) → Contains zs x → Contains (fold put_once [] zs) x
ordered_keeps zs x c = puts_keep zs [] x (inr c)

pub ordered_rises : (zs : List ℤ) → Rise (fold put_once [] zs)
ordered_rises zs = puts_rise zs [] (AllPairs-nil (λ a b. a <ℤ b))

pub ordered_is : (zs ys : List ℤ) → Rise ys → ((x : ℤ) → Contains ys x → Contains zs x) → ((x : ℤ) → Contains zs x → Contains ys x) → ys ≡ fold put_once [] zs
ordered_is zs ys rise from keeps =
    same_numbers ys (fold put_once [] zs) rise (ordered_rises zs) (λ x c. ordered_keeps zs x (from x c)) (λ x c. keeps x (ordered_from zs x c))

-- numbers put in or taken out
pub toggles_rise : (zs es : List ℤ) → Rise es → Rise (fold toggle es zs)
toggles_rise [] es rise = rise
toggles_rise (z ∷ zs) es rise = toggles_rise zs (toggle es z) (toggle_rises es z rise)

pub odd_rises : (zs : List ℤ) → Rise (fold toggle [] zs)
odd_rises zs = toggles_rise zs [] (AllPairs-nil (λ a b. a <ℤ b))

toggles_from : (zs es : List ℤ) (x : ℤ) → Contains (fold toggle es zs) x → Contains es x ⊎ Contains zs x
toggles_from [] es x c = inl c
toggles_from (z ∷ zs) es x c = elim (toggles_from zs (toggle es z) x c) [
  | inl put ↦ elim (toggle_from es z x put) [
    | inl is ↦ inr (rw (← is) (Contains-here z zs))
    | inr old ↦ inl old
  ]
  | inr later ↦ inr (Contains-there z zs x later)
]

pub odd_from : (zs : List ℤ) (x : ℤ) → Contains (fold toggle [] zs) x → Contains zs x
odd_from zs x c = elim (toggles_from zs [] x c) [ inl none ↦ absurd (Contains-nil x none) | inr new ↦ new ]

module _ (test : ℤ → Bool) where
  -- a number put in or taken out changes whether an odd number pass, if it passes
  pub is_odd-toggle : (es : List ℤ) (z : ℤ) → is_odd test (toggle es z) ≡ differ (test z) (is_odd test es)
  is_odd-toggle [] z = is_odd-cons test z []
  is_odd-toggle (y ∷ ys) z = elim (compared z y) [
    | below less test_is ↦ rw test_is (is_odd-cons test z (y ∷ ys))
    | above more less test_is ↦
        rw (less, test_is)
        (is_odd-cons test y (toggle ys z) ∙ ap (differ (test y)) (is_odd-toggle ys z) ∙ differ_swap (test y) (test z) (is_odd test ys)
        ∙ ap (differ (test z)) (sym (is_odd-cons test y ys)))
    | same is less more ↦
        rw (less, more)
        (sym (ap (differ (test z)) (is_odd-cons test y ys) ∙ ap (λ w. differ (test z) (differ (test w) (is_odd test ys))) (sym is)
        ∙ differ_twice (test z) (is_odd test ys)))
  ]

  pub is_odd-toggles : (zs es : List ℤ) → is_odd test (fold toggle es zs) ≡ differ (is_odd test zs) (is_odd test es)
  is_odd-toggles [] es = ap (λ b. differ b (is_odd test es)) (sym (is_odd-nil test))
  is_odd-toggles (z ∷ zs) es =
      is_odd-toggles zs (toggle es z) ∙ ap (differ (is_odd test zs)) (is_odd-toggle es z) ∙ differ_ordered (test z) (is_odd test zs) (is_odd test es)
      ∙ ap (λ b. differ b (is_odd test es)) (sym (is_odd-cons test z zs))

  -- an odd number of those of which an odd number stand in the list pass, just if an odd number of the list pass
  pub is_odd-odd : (zs : List ℤ) → is_odd test (fold toggle [] zs) ≡ is_odd test zs
  is_odd-odd zs = is_odd-toggles zs [] ∙ ap (differ (is_odd test zs)) (is_odd-nil test) ∙ differ_none (is_odd test zs)
