-- Lists in order of all that has a property.
use Rattle.std.proofs.Common.{◌≡◌, ◌⊎◌, ℕ, zero, suc, ◌<◌, List, [], ◌∷◌, ◌++◌, All, AllPairs, Contains, inl, inr, sym, subst, arith}
use Rattle.std.proofs.lemmas.Bool.{cases_lt}
use Rattle.std.proofs.lemmas.List.Elements.{All-append, All-contains, All-cons, All-nil, All-weaker, Contains-append_left, Contains-append_right}
use Rattle.std.proofs.lemmas.List.Kept.{AllPairs-cons}
use Rattle.leg_lemmas.proofs.Contents.{Contains-here, Contains-there, Contains-cons_cases, All-from_contains}
use Rattle.leg_lemmas.proofs.RisingLists.{AllPairs-nil, AllPairs-head, AllPairs-tail, AllPairs-append_by}
use Rattle.leg_legal.proofs.Decisions.{HoldsOrNot}

-- it is of a kind of a number below the end
pub record IsOfKind {X : Type 0} (P : ℕ → X → Type 0) (end : ℕ) (x : X) : Type 0 where
  pub kind : ℕ
  pub below : kind < end
  pub holds : P kind x

module _ {X : Type 0} (R : X → X → Type 0) where
  -- the elements are those with the property, and each stands in R to the later ones
  pub record IsListing (P : X → Type 0) (xs : List X) : Type 0 where
    pub rising : AllPairs R xs
    pub each : All P xs
    pub all : (x : X) → P x → Contains xs x

  -- there is such a list
  abbrev pub HasListing : (X → Type 0) → Type 0
  HasListing P = (xs : List X) × IsListing P xs

  module _ (P : X → Type 0) where
    pub listing_of_none : ((x : X) → P x → ⊥) → HasListing P
    listing_of_none none = ([], record { rising = AllPairs-nil R; each = All-nil P; all = λ x p. absurd (none x p) })

    pub listing_of_one : (x : X) → HoldsOrNot (P x) → ((y : X) → P y → y ≡ x) → HasListing P
    listing_of_one x (inl p) only = (
      x ∷ [],
      record {
        rising = AllPairs-cons R x [] (All-nil (R x)) (AllPairs-nil R);
        each = All-cons P x [] p (All-nil P);
        all = λ y q. subst (Contains (x ∷ [])) (sym (only y q)) (Contains-here x []);
      },
    )
    listing_of_one x (inr never) only = listing_of_none (λ y q. never (subst P (only y q) q))

    -- of all of one kind, and behind them all of another
    pub listing_of_both : (Q S : X → Type 0) → ((x : X) → P x → S x) → ((x : X) → Q x → S x) → ((x : X) → S x → P x ⊎ Q x)
        → ((x y : X) → P x → Q y → R x y) → HasListing P → HasListing Q → HasListing S
    listing_of_both Q S from_p from_q split between (xs, first) (ys, second) = (
      xs ++ ys,
      record {
        rising = AllPairs-append_by R P Q between xs ys first.each second.each first.rising second.rising;
        each = All-append S xs ys (All-weaker P S from_p xs first.each) (All-weaker Q S from_q ys second.each);
        all = λ x s. elim (split x s) [
          | inl p ↦ Contains-append_left xs ys x (first.all x p)
          | inr q ↦ Contains-append_right xs ys x (second.all x q)
        ];
      },
    )

  -- of another property that is as good
  pub listing_same : (P Q : X → Type 0) → ((x : X) → P x → Q x) → ((x : X) → Q x → P x) → HasListing P → HasListing Q
  listing_same P Q there back (xs, list) = (xs, record { rising = list.rising; each = All-weaker P Q there xs list.each; all = λ x q. list.all x (back x q) })

  -- of all kinds of numbers below the end, one kind behind the other
  module _ (P : ℕ → X → Type 0) (each : (k : ℕ) → HasListing (P k)) (between : (j k : ℕ) (x y : X) → j < k → P j x → P k y → R x y) where
    pub listing_below : (end : ℕ) → HasListing (IsOfKind P end)
    listing_below zero = listing_of_none (IsOfKind P zero) (λ x is. omega (arith, is.below))
    listing_below (suc end) =
        listing_of_both (IsOfKind P end) (P end) (IsOfKind P (suc end))
        (λ x is. record { kind = is.kind; below = omega (arith, is.below); holds = is.holds })
        (λ x p. record { kind = end; below = omega arith; holds = p })
        (λ x is. elim (cases_lt is.kind end) [
          | inl earlier ↦ inl (record { kind = is.kind; below = earlier; holds = is.holds })
          | inr late ↦ let here : is.kind ≡ end = omega (arith, is.below, late) in inr (subst (λ (k : ℕ). P k x) here is.holds)
        ])
        (λ x y is p. between is.kind end x y is.below is.holds p)
        (listing_below end) (each end)

-- one more element put into a list in order
module _ {X : Type 0} (R : X → X → Type 0) (trans : (x y z : X) → R x y → R y z → R x z) (x : X) where
  record IsInserted (xs zs : List X) : Type 0 where
    rising : AllPairs R zs
    all : (z : X) → Contains (x ∷ xs) z → Contains zs z
    only : (z : X) → Contains zs z → Contains (x ∷ xs) z

  inserted : (xs : List X) → AllPairs R xs → ((y : X) → Contains xs y → R x y ⊎ R y x) → (zs : List X) × IsInserted xs zs
  inserted [] rise order = (
    x ∷ [],
    record { rising = AllPairs-cons R x [] (All-nil (R x)) (AllPairs-nil R); all = λ z h. h; only = λ z h. h },
  )
  inserted (y ∷ ys) rise order =
      elim (order y (Contains-here y ys)) [
        | inl first ↦ (
          x ∷ y ∷ ys,
          record {
            rising =
                AllPairs-cons R x (y ∷ ys) (All-cons (R x) y ys first
                (All-weaker (R y) (R x) (λ z yz. trans x y z first yz) ys (AllPairs-head R y ys rise))) rise;
            all = λ z h. h;
            only = λ z h. h;
          },
        )
        | inr later ↦ behind y ys rise later (inserted ys (AllPairs-tail R y ys rise) (λ z h. order z (Contains-there y ys z h)))
      ] where
        behind : (y : X) (ys : List X) → AllPairs R (y ∷ ys) → R y x → (zs : List X) × IsInserted ys zs → (zs : List X) × IsInserted (y ∷ ys) zs
        behind y ys rise later (zs, is) = (
          y ∷ zs,
          record {
            rising =
                AllPairs-cons R y zs
                (All-from_contains (R y) zs (λ z h. elim (Contains-cons_cases x ys z (is.only z h)) [
                  | inl same ↦ subst (R y) same later
                  | inr rest ↦ All-contains (R y) ys z (AllPairs-head R y ys rise) rest
                ]))
                is.rising;
            all = λ z h. elim (Contains-cons_cases x (y ∷ ys) z h) [
              | inl same ↦ Contains-there y zs z (is.all z (subst (Contains (x ∷ ys)) same (Contains-here x ys)))
              | inr rest ↦ elim (Contains-cons_cases y ys z rest) [
                | inl here ↦ subst (Contains (y ∷ zs)) here (Contains-here y zs)
                | inr deeper ↦ Contains-there y zs z (is.all z (Contains-there x ys z deeper))
              ]
            ];
            only = λ z h. elim (Contains-cons_cases y zs z h) [
              | inl here ↦ Contains-there x (y ∷ ys) z (subst (Contains (y ∷ ys)) here (Contains-here y ys))
              | inr rest ↦ elim (Contains-cons_cases x ys z (is.only z rest)) [
                | inl same ↦ subst (Contains (x ∷ y ∷ ys)) same (Contains-here x (y ∷ ys))
                | inr deeper ↦ Contains-there x (y ∷ ys) z (Contains-there y ys z deeper)
              ]
            ];
          },
        )

  -- where it stands in R to each other one, or each to it
  pub listing_with : (P S : X → Type 0) → P x → ((y : X) → S y → P y) → ((y : X) → P y → (x ≡ y) ⊎ S y) → ((y : X) → S y → R x y ⊎ R y x) → HasListing R S
      → HasListing R P
  listing_with P S here wider split order (xs, listing) =
      let put = inserted xs listing.rising (λ y h. order y (All-contains S xs y listing.each h)) in (
        put.0,
        record {
          rising = put.1.rising;
          each =
              All-from_contains P put.0 (λ y h. elim (Contains-cons_cases x xs y (put.1.only y h)) [
                | inl same ↦ subst P same here
                | inr rest ↦ wider y (All-contains S xs y listing.each rest)
              ]);
          all = λ y p. elim (split y p) [
            | inl same ↦ put.1.all y (subst (Contains (x ∷ xs)) same (Contains-here x xs))
            | inr s ↦ put.1.all y (Contains-there x xs y (listing.all y s))
          ];
        },
      )
