-- Rising lists of numbers: a number put in once, and one put in or taken out.
use Rattle.std.proofs.Common.{◌≡◌, ℤ, ◌<ℤ◌, ◌≤ℤ◌, true, false, List, [], ◌∷◌, All, AllPairs, Contains, ◌⊎◌, inl, inr, arith}
use Rattle.std.specs.Prelude.{int_lt}
use Rattle.std.proofs.lemmas.Bool.{cases_Bool}
use Rattle.std.proofs.lemmas.Int.{ints}
use Rattle.std.proofs.lemmas.List.Elements.{All-cons, All-nil, All-contains, All-weaker}
use Rattle.std.proofs.lemmas.List.Kept.{AllPairs-cons}
use Rattle.leg_lemmas.proofs.Contents.{Contains-nil, Contains-here, Contains-there, Contains-cons_cases, All-from_contains}
use Rattle.leg_lemmas.proofs.Integers.{lt_from_test, least_from_test, lt_trans_z}
use Rattle.leg_lemmas.proofs.RisingLists.{AllPairs-head, AllPairs-tail, same_rising}
use Rattle.leg_polygon.specs.Slab.{put_once, toggle}

-- each number is below all later ones
abbrev pub Rise : List ℤ → Type 0
Rise zs = AllPairs (λ a b. a <ℤ b) zs

pub not_less : (z : ℤ) → z <ℤ z → ⊥
not_less z less = omega (arith, ints)

-- what stands behind the first number of a rising list is above it, and rises
pub above_first : (a : ℤ) (zs : List ℤ) (z : ℤ) → Rise (a ∷ zs) → Contains zs z → a <ℤ z
above_first a zs z rise c = All-contains (λ b. a <ℤ b) zs z (AllPairs-head (λ x y. x <ℤ y) a zs rise) c

pub rest_rises : (a : ℤ) (zs : List ℤ) → Rise (a ∷ zs) → Rise zs
rest_rises a zs rise = AllPairs-tail (λ x y. x <ℤ y) a zs rise

-- two rising lists with the same numbers are one
pub same_numbers : (xs ys : List ℤ) → Rise xs → Rise ys → ((z : ℤ) → Contains xs z → Contains ys z) → ((z : ℤ) → Contains ys z → Contains xs z) → xs ≡ ys
same_numbers = same_rising (λ a b. a <ℤ b) not_less lt_trans_z

-- a number is below another one, or above it, or the same
pub data Compared (z y : ℤ) : Type 0 where
  below : z <ℤ y → int_lt z y ≡ true → Compared z y
  above : y <ℤ z → int_lt z y ≡ false → int_lt y z ≡ true → Compared z y
  same : z ≡ y → int_lt z y ≡ false → int_lt y z ≡ false → Compared z y

pub compared : (z y : ℤ) → Compared z y
compared z y =
    elim (cases_Bool (int_lt z y)) [
      | inl less ↦ below (lt_from_test z y less) less
      | inr not_less ↦ elim (cases_Bool (int_lt y z)) [
        | inl more ↦ above (lt_from_test y z more) not_less more
        | inr not_more ↦
            let low : y ≤ℤ z = least_from_test z y not_less in
            let high : z ≤ℤ y = least_from_test y z not_more in
            same (omega (arith, ints)) not_less not_more
      ]
    ]

-- the rest of a rising list is above what is below its first number
pub above_all : (z y : ℤ) (ys : List ℤ) → z <ℤ y → Rise (y ∷ ys) → All (λ b. z <ℤ b) (y ∷ ys)
above_all z y ys less rise =
    All-cons (λ b. z <ℤ b) y ys less
    (All-weaker (λ b. y <ℤ b) (λ b. z <ℤ b) (λ b more. lt_trans_z z y b less more) ys (AllPairs-head (λ a b. a <ℤ b) y ys rise))

-- a list of a number and of what each comes from z or from a list above the number rises
rise_from : (z y : ℤ) (ys made : List ℤ) → y <ℤ z → Rise (y ∷ ys) → Rise made → ((x : ℤ) → Contains made x → (z ≡ x) ⊎ Contains ys x) → Rise (y ∷ made)
rise_from z y ys made less rise made_rise from =
    AllPairs-cons (λ a b. a <ℤ b) y made
    (All-from_contains (λ b. y <ℤ b) made (λ x c. elim (from x c) [
      | inl is ↦ rw (← is) less
      | inr old ↦ All-contains (λ b. y <ℤ b) ys x (AllPairs-head (λ a b. a <ℤ b) y ys rise) old
    ])) made_rise

-- what stands in a list into which a number was put, or from which it was taken
pub toggle_from : (es : List ℤ) (z x : ℤ) → Contains (toggle es z) x → (z ≡ x) ⊎ Contains es x
toggle_from [] z x c = elim (Contains-cons_cases z [] x c) [ inl is ↦ inl is | inr none ↦ absurd (Contains-nil x none) ]
toggle_from (y ∷ ys) z x c = elim (compared z y) [
  | below less test ↦ Contains-cons_cases z (y ∷ ys) x (rw test at c)
  | above more less test ↦ elim (Contains-cons_cases y (toggle ys z) x (rw (less, test) at c)) [
    | inl is ↦ inr (rw (← is) (Contains-here y ys))
    | inr rest ↦ elim (toggle_from ys z x rest) [ inl is ↦ inl is | inr old ↦ inr (Contains-there y ys x old) ]
  ]
  | same is less more ↦ inr (Contains-there y ys x (rw (less, more) at c))
]

pub toggle_rises : (es : List ℤ) (z : ℤ) → Rise es → Rise (toggle es z)
toggle_rises [] z rise = AllPairs-cons (λ a b. a <ℤ b) z [] (All-nil (λ b. z <ℤ b)) rise
toggle_rises (y ∷ ys) z rise = elim (compared z y) [
  | below less test ↦ rw test (AllPairs-cons (λ a b. a <ℤ b) z (y ∷ ys) (above_all z y ys less rise) rise)
  | above more less test ↦
      rw (less, test) (rise_from z y ys (toggle ys z) more rise (toggle_rises ys z (AllPairs-tail (λ a b. a <ℤ b) y ys rise)) (toggle_from ys z))
  | same is less more ↦ rw (less, more) (AllPairs-tail (λ a b. a <ℤ b) y ys rise)
]

-- a number put in once: it stands there, with all that stood there before, and nothing else
pub put_from : (es : List ℤ) (z x : ℤ) → Contains (put_once es z) x → (z ≡ x) ⊎ Contains es x
put_from [] z x c = elim (Contains-cons_cases z [] x c) [ inl is ↦ inl is | inr none ↦ absurd (Contains-nil x none) ]
put_from (y ∷ ys) z x c = elim (compared z y) [
  | below less test ↦ Contains-cons_cases z (y ∷ ys) x (rw test at c)
  | above more less test ↦ elim (Contains-cons_cases y (put_once ys z) x (rw (less, test) at c)) [
    | inl is ↦ inr (rw (← is) (Contains-here y ys))
    | inr rest ↦ elim (put_from ys z x rest) [ inl is ↦ inl is | inr old ↦ inr (Contains-there y ys x old) ]
  ]
  | same is less more ↦ inr (rw (less, more) at c)
]

pub put_rises : (es : List ℤ) (z : ℤ) → Rise es → Rise (put_once es z)
put_rises [] z rise = AllPairs-cons (λ a b. a <ℤ b) z [] (All-nil (λ b. z <ℤ b)) rise
put_rises (y ∷ ys) z rise = elim (compared z y) [
  | below less test ↦ rw test (AllPairs-cons (λ a b. a <ℤ b) z (y ∷ ys) (above_all z y ys less rise) rise)
  | above more less test ↦
      rw (less, test) (rise_from z y ys (put_once ys z) more rise (put_rises ys z (AllPairs-tail (λ a b. a <ℤ b) y ys rise)) (put_from ys z))
  | same is less more ↦ rw (less, more) rise
]

pub put_keeps : (es : List ℤ) (z x : ℤ) → (z ≡ x) ⊎ Contains es x → Contains (put_once es z) x
put_keeps [] z x (inl is) = rw (← is) (Contains-here z [])
put_keeps [] z x (inr none) = absurd (Contains-nil x none)
put_keeps (y ∷ ys) z x (inl is) = elim (compared z y) [
  | below less test ↦ rw test (rw (← is) (Contains-here z (y ∷ ys)))
  | above more less test ↦ rw (less, test) (Contains-there y (put_once ys z) x (put_keeps ys z x (inl is)))
  | same here less more ↦ rw (less, more) (rw (← is, here) (Contains-here y ys))
]
put_keeps (y ∷ ys) z x (inr old) = elim (compared z y) [
  | below less test ↦ rw test (Contains-there z (y ∷ ys) x old)
  | above more less test ↦ rw (less, test) (elim (Contains-cons_cases y ys x old) [
    | inl here ↦ rw (← here) (Contains-here y (put_once ys z))
    | inr rest ↦ Contains-there y (put_once ys z) x (put_keeps ys z x (inr rest))
  ])
  | same here less more ↦ rw (less, more) old
]
