-- The list of the pieces that are joined to a net's first one.
use Rattle.std.proofs.Common.{◌≡◌, ◌≢◌, ◌↔◌, ℕ, zero, suc, ◌+◌, ◌<◌, Bool, true, false, eqb, All, List, [], ◌∷◌, ◌++◌, length, get_or, take, drop, AllPairs, Contains, Some, slice_get, ◌⊎◌, inl, inr, refl, sym, ap, ◌∙◌, arith}
use Rattle.std.specs.List.{list_any}
use Rattle.std.specs.Cmp.{nat_eq_equiv}
use Rattle.std.proofs.lemmas.Bool.{cases_lt, false≢true, eqb-true, eq-eqb}
use Rattle.std.proofs.lemmas.List.{length-take, length-drop, get_or_past, get_or-take, get_or-drop, take-append-drop}
use Rattle.std.proofs.lemmas.List.Elements.{Contains-append_right, Contains-append_cases}
use Rattle.std.proofs.lemmas.Map.Made.{IsDistinct-from_AllPairs}
use Rattle.std.proofs.lemmas.Map.Steps.{le-length_from_below, length-le_from_distinct_below}
use Rattle.std.proofs.lemmas.Map.Views.{Contains-from_any, list_any-from_Contains}
use Rattle.std.proofs.lemmas.Option.{same_Some, slice_get_within}
use Rattle.leg_sweep.proofs.Lists.{All-from_contains, Contains-nil}
use Rattle.leg_lemmas.proofs.RisingLists.{AllPairs-append}
use Rattle.leg_design_records.specs.Records.{DesignModel}
use Rattle.leg_rules.specs.Metal.Flat.{FlatModel}
use Rattle.leg_rules.specs.Joins.Touch.{piece_count, AreJoined}
use Rattle.leg_rules.specs.Joins.Violations.{IsOpenNet}
use Rattle.leg_wire.specs.Joins.{JoinsModel, AreNewlyJoined}
use Rattle.leg_wire.specs.Steps.JoinSteps.{AreJoinedSets}
use Rattle.leg_wire.specs.Steps.NumberSets.{AreTogether, AreGroups}

-- a list that is shorter lacks a number
module _ (xs : List ℕ) where
  search_below : (n : ℕ) → ((q : ℕ) → q < n → list_any (eqb q) xs ≡ true) ⊎ ((q : ℕ) × (q < n) × (Contains xs q → ⊥))
  search_below zero = inl (λ q low. absurd (omega (arith, low)))
  search_below (suc n) = elim (search_below n) [
    | inr found ↦ inr (found.0, omega (arith, found.1), found.2)
    | inl all ↦ by (list_any (eqb n) xs) refl all
  ]
    where
      by : (there : Bool) → list_any (eqb n) xs ≡ there → ((q : ℕ) → q < n → list_any (eqb q) xs ≡ true)
          → ((q : ℕ) → q < suc n → list_any (eqb q) xs ≡ true) ⊎ ((q : ℕ) × (q < suc n) × (Contains xs q → ⊥))
      by true is all = inl (λ q low. elim (cases_lt q n) [
        | inl earlier ↦ all q earlier
        | inr late ↦
            let here : q ≡ n = omega (arith, low, late) in
            rw here is
      ])
      by false is all = inr (n, omega arith, λ has. false≢true (sym is ∙ list_any-from_Contains nat_eq_equiv n xs has))

  pub lacks_one : (n : ℕ) → length xs < n → (q : ℕ) × (q < n) × (Contains xs q → ⊥)
  lacks_one n short = elim (search_below n) [
    | inl all ↦ let long = le-length_from_below xs n all in absurd (omega (arith, long, short))
    | inr found ↦ found
  ]

  -- and one that lacks a number is shorter
  pub is_short : (n q : ℕ) → AllPairs (λ j k. j ≢ k) xs → ((k : ℕ) → Contains xs k → k < n) → q < n → (Contains xs q → ⊥) → length xs < n
  is_short n q once low q_in lacks =
      let alone : AllPairs (λ j k. j ≢ k) (q ∷ []) = λ i j d below within. absurd (omega (arith, below, within)) in
      let all : AllPairs (λ j k. j ≢ k) ((q ∷ []) ++ xs) =
      AllPairs-append (λ j k. j ≢ k) (q ∷ []) xs alone once
      (All-from_contains (λ j. All (λ k. j ≢ k) xs) (q ∷ [])
      (λ j j_in. All-from_contains (λ k. j ≢ k) xs (λ k k_in same. lacks (rw (← (one j j_in ∙ same)) at k_in)))) in
      let size = length-le_from_distinct_below (q ∷ xs) n (IsDistinct-from_AllPairs (λ a b. (eqb-true a b, eq-eqb a b)) (q ∷ xs) all)
      (λ k there. under k (Contains-from_any eqb-true k (q ∷ xs) there)) in
      omega (arith, size)
    where
      one : (j : ℕ) → Contains (q ∷ []) j → q ≡ j
      one j has = elim (Contains-append_cases [] (q ∷ []) j has) [
        | inl none ↦ absurd (Contains-nil j none)
        | inr own ↦ (let at : own.0 ≡ 0 = omega (arith, own.1) in rw at at own.2)
      ]

      under : (k : ℕ) → Contains (q ∷ xs) k → k < n
      under k has = elim (Contains-append_cases (q ∷ []) xs k has) [
        | inl own ↦ rw (← one k own) q_in
        | inr other ↦ low k other
      ]

module _ (flat : FlatModel) (net : ℕ) (sets : List ℕ) (lists : List (List ℕ)) (joined : AreJoinedSets flat net sets) (groups : AreGroups sets lists) where
  abbrev first : List ℕ
  first = get_or lists 0 []

  some_in : (k : ℕ) → Contains first k → 0 < length sets
  some_in k has = elim (cases_lt 0 (length sets)) [
    | inl some ↦ some
    | inr none ↦
        let empty : get_or lists 0 [] ≡ [] = get_or_past lists 0 [] (omega (arith, none, groups.members.many)) in
        absurd (Contains-nil k (rw empty at has))
  ]

  -- exactly those that are joined to the first one
  pub first_are : (k : ℕ) → Contains first k ↔ ((k < piece_count flat net) × AreJoined flat net 0 k)
  first_are k = (
    λ has.
        let some = some_in k has in
        let at : slice_get sets k ≡ Some 0 = (groups.members.each 0 k some).0 has in
        let k_in = slice_get_within sets k 0 at in (
          omega (arith, k_in, joined.count),
          (joined.each 0 k (omega (arith, some, joined.count))).0 (record { least = 0; of_a = groups.begins some; of_b = at }),
        ),
    λ is.
        let some : 0 < length sets = omega (arith, is.0, joined.count) in
        let together : AreTogether sets 0 k = (joined.each 0 k (omega (arith, is.0))).1 is.1 in
        let least : together.least ≡ 0 = same_Some together.least 0 (sym together.of_a ∙ groups.begins some) in
        (groups.members.each 0 k some).1 (together.of_b ∙ ap Some least),
  )

  -- the net is open just where they are fewer than its pieces
  pub open_where_short : (design : DesignModel) → net < length design.nets
      → (length first < length sets → IsOpenNet design flat net) × (IsOpenNet design flat net → length first < length sets)
  open_where_short design entry = (
    λ short.
        let found = lacks_one first (length sets) short in
        let k_in : found.0 < piece_count flat net = omega (arith, found.1, joined.count) in
        (found.0, record { net = entry; piece = k_in; open_piece = λ is. found.2 ((first_are found.0).1 (k_in, is)) }),
    λ is.
        is_short first (length sets) is.0 (groups.members.once 0) (λ k has. let k_in = ((first_are k).0 has).0 in omega (arith, k_in, joined.count))
        (let k_in = is.1.piece in omega (arith, k_in, joined.count)) (λ has. is.1.open_piece ((first_are is.0).0 has).1),
  )

-- those behind the ones that were given are newly joined
module _ (flat : FlatModel) (joins : JoinsModel) (sets : List ℕ) (lists : List (List ℕ)) (given : ℕ) (joined : AreJoinedSets flat joins.net sets)
    (groups : AreGroups sets lists) (given_is : joins.given ≡ take given (get_or lists 0 [])) where
  abbrev all : List ℕ
  all = get_or lists 0 []

  once : AllPairs (λ j k. j ≢ k) all
  once = groups.members.once 0

  given_apart : (k : ℕ) → Contains (take given all) k → Contains (drop given all) k → ⊥
  given_apart k was comes =
      let cut = length-take given all in
      let rest = length-drop given all in
      let one : get_or all was.0 k ≡ k = sym (get_or-take given all was.0 k (omega (arith, cut, was.1))) ∙ was.2 in
      let other : get_or all (given + comes.0) k ≡ k = sym (get_or-drop given all comes.0 k) ∙ comes.2 in
      once was.0 (given + comes.0) k (omega (arith, cut, was.1)) (omega (arith, rest, comes.1)) (one ∙ sym other)

  pub newly_joined : AreNewlyJoined flat joins (drop given all)
  newly_joined = record {
    are = λ k. (
      λ comes.
          let is =
          (first_are flat joins.net sets lists joined groups k).0
          (rw (take-append-drop given all) at (Contains-append_right (take given all) (drop given all) k comes)) in
          record { within = is.0; joined = is.1; is_new = λ was. given_apart k (rw given_is at was) comes },
      λ new.
          let has : Contains all k = (first_are flat joins.net sets lists joined groups k).1 (new.within, new.joined) in
          elim (Contains-append_cases (take given all) (drop given all) k (rw (← take-append-drop given all) at has)) [
            | inl was ↦ absurd (new.is_new (rw given_is was))
            | inr comes ↦ comes
          ],
    );
    once = λ i j d below within.
        let rest = length-drop given all in
        rw (get_or-drop given all i d, get_or-drop given all j d) (once (given + i) (given + j) d (omega (arith, below)) (omega (arith, rest, within)));
  }
