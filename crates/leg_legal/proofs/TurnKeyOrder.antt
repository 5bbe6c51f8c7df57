-- The keys of movable components, and those once they are sorted.
use Rattle.std.proofs.Common.{◌≡◌, ℕ, ℤ, ◌+◌, ◌<◌, pos, ◌-ℤ◌, ◌≤ℤ◌, Bool, false, List, [], ◌∷◌, ◌++◌, length, get_or, eqb, All, AllPairs, Some, slice_get, Ordering, IsPermutation, IsSorted, inl, inr, refl, sym, ap, ◌∙◌, arith}
use Rattle.std.specs.Ordering.{is_lt, nat_cmp, int_cmp, ordering_then}
use Rattle.std.specs.Cmp.{IsTotalOrder}
use Rattle.std.specs.List.{IsDistinct}
use Rattle.std.proofs.lemmas.Bool.{cases_lt, eqb-false, ne_eqb}
use Rattle.std.proofs.lemmas.Bool.Decides.{nat_tests}
use Rattle.std.proofs.lemmas.Cmp.{nat_eq_equiv, nat_cmp_total, int_cmp_total, on_total, then_total}
use Rattle.std.proofs.lemmas.Int.{ints}
use Rattle.std.proofs.lemmas.List.{map-append}
use Rattle.std.proofs.lemmas.List.Elements.{All-nil, All-push, All-map, All-weaker, Contains-append_left, Contains-push}
use Rattle.std.proofs.lemmas.List.Quantifiers.{all_pairs_push}
use Rattle.std.proofs.lemmas.List.Sorted.{ranks_by, sorted_far, All-permutation, Contains-permutation, IsPermutation-map}
use Rattle.std.proofs.lemmas.Map.Keys.{IsDistinct-from_apart, apart_from_distinct, IsDistinct-IsPermutation}
use Rattle.std.proofs.lemmas.Option.{same_Some, slice_get_within}
use Rattle.leg_lemmas.proofs.Contents.{Contains-map}
use Rattle.leg_lemmas.proofs.RisingLists.{AllPairs-map_where}
use Rattle.leg_design_records.specs.Records.{DesignModel}
use Rattle.leg_lib_records.specs.Records.{MasterModel}
use Rattle.leg_design_records.specs.declared.records.Component.{Component}
use Rattle.leg_legal.specs.declared.turns.TurnKey.{TurnKey}
use Rattle.leg_design_records.specs.Movable.{IsMovable}
use Rattle.leg_rules.specs.Legalise.Start.{start_of}
use Rattle.leg_rules.specs.Legalise.Turns.{Turn, HasTurn, IsEarlier, IsTakenBefore}
use Rattle.leg_legal.specs.Steps.TurnKeys.{IsTurnKeyOf, numbers, AreTurnKeysBelow, AreInOrder}

abbrev pub key_cmp : TurnKey → TurnKey → Ordering
key_cmp a b = ordering_then (int_cmp a.narrow b.narrow) (ordering_then (int_cmp a.x b.x) (nat_cmp a.number b.number))

key_cmp_total : IsTotalOrder key_cmp
key_cmp_total =
    then_total (on_total (λ (k : TurnKey). k.narrow) int_cmp_total)
    (then_total (on_total (λ (k : TurnKey). k.x) int_cmp_total) (on_total (λ (k : TurnKey). k.number) nat_cmp_total))

-- keys of different numbers in rising order
pub record IsBelow (a b : TurnKey) : Type 0 where
  pub narrow : a.narrow ≤ℤ b.narrow
  pub x : a.narrow ≡ b.narrow → a.x ≤ℤ b.x
  pub number : a.narrow ≡ b.narrow → a.x ≡ b.x → a.number < b.number

below_from_test : (a b : TurnKey) → is_lt (key_cmp b a) ≡ false → (a.number ≡ b.number → ⊥) → IsBelow a b
below_from_test a b not_above differ = record {
  narrow = grind (arith, ints, nat_tests);
  x = λ same. grind (arith, ints, nat_tests);
  number = λ same alike. grind (arith, ints, nat_tests);
}

module _ (design : DesignModel) where
  turn_of : (key : TurnKey) → IsTurnKeyOf design key → Turn
  turn_of key is = record { width = is.movable.master.size.width; x = (start_of design.die is.movable.component.place).x; number = key.number }

  has_turn : (key : TurnKey) (is : IsTurnKeyOf design key) → HasTurn design key.number (turn_of key is)
  unfolding turn_of
  has_turn key is =
      record { component = is.movable.component; there = is.movable.there; master = is.movable.master; is_master = is.movable.is_master; is = refl }

  earlier_from_below : (a b : TurnKey) (is_a : IsTurnKeyOf design a) (is_b : IsTurnKeyOf design b) → IsBelow a b → IsEarlier (turn_of a is_a) (turn_of b is_b)
  unfolding turn_of
  earlier_from_below a b is_a is_b below = record {
    width = omega (arith, ints, is_a.narrow, is_b.narrow, below.narrow);
    x = λ same.
        let alike : a.narrow ≡ b.narrow = omega (arith, ints, is_a.narrow, is_b.narrow, same) in
        omega (arith, ints, is_a.x, is_b.x, below.x alike);
    number = λ same one.
        let alike : a.narrow ≡ b.narrow = omega (arith, ints, is_a.narrow, is_b.narrow, same) in
        let x : a.x ≡ b.x = omega (arith, ints, is_a.x, is_b.x, one) in
        below.number alike x;
  }

  taken_before : (a b : TurnKey) → IsTurnKeyOf design a → IsTurnKeyOf design b → IsBelow a b → IsTakenBefore design a.number b.number
  taken_before a b is_a is_b below = record {
    turn_c = turn_of a is_a;
    turn_d = turn_of b is_b;
    has_c = has_turn a is_a;
    has_d = has_turn b is_b;
    earlier = earlier_from_below a b is_a is_b below;
  }

  -- the key of a component, by what is read of it
  pub key_of_movable : (c : ℕ) (m : IsMovable design c) (component : Component) (master : MasterModel) (narrow x : ℤ)
      → slice_get design.components c ≡ Some component → slice_get design.library.masters component.master ≡ Some master → narrow ≡ pos 0 -ℤ master.size.width
      → x ≡ (start_of design.die component.place).x → IsTurnKeyOf design (record { narrow = narrow; x = x; number = c })
  key_of_movable c m component master narrow x there is_master narrow_is x_is =
      let one : component ≡ m.component = same_Some component m.component (sym there ∙ m.there) in
      let told : slice_get design.library.masters m.component.master ≡ Some master = rw one at is_master in
      let same : master ≡ m.master = same_Some master m.master (sym told ∙ m.is_master) in
      record {
        movable = m;
        narrow = narrow_is ∙ ap (λ (y : MasterModel). pos 0 -ℤ y.size.width) same;
        x = x_is ∙ ap (λ (y : Component). (start_of design.die y.place).x) one;
      }

  pub keys_none : AreTurnKeysBelow design 0 []
  keys_none = record {
    each = All-nil (IsTurnKeyOf design);
    below = All-nil (λ key. key.number < 0);
    all = λ c below m. absurd (omega arith);
    rising = λ i j d order within. absurd (omega arith);
  }

  -- the key of one more component
  pub keys_more : (keys : List TurnKey) (i : ℕ) (key : TurnKey) → IsTurnKeyOf design key → key.number ≡ i → AreTurnKeysBelow design i keys
      → AreTurnKeysBelow design (i + 1) (keys ++ key ∷ [])
  keys_more keys i key is number done = record {
    each = All-push (IsTurnKeyOf design) keys key done.each is;
    below =
        All-push (λ k. k.number < i + 1) keys key
        (All-weaker (λ k. k.number < i) (λ k. k.number < i + 1) (λ k below. omega arith) keys done.below) (omega (arith, number));
    all = λ c below m. elim (cases_lt c i) [
      | inl earlier ↦ rw map-append (Contains-append_left (numbers keys) (key.number ∷ []) c (done.all c earlier m))
      | inr late ↦
          let here : key.number ≡ c = omega (arith, number) in
          let last = Contains-map (λ (k : TurnKey). k.number) (keys ++ key ∷ []) key (Contains-push keys key) in
          rw (← here) last
    ];
    rising =
        all_pairs_push (λ a b. a.number < b.number) keys key done.rising
        (λ k d within. let below : (get_or keys k d).number < i = done.below k d within in omega (arith, number));
  }

  -- none for a component that isn't movable
  pub keys_skip : (keys : List TurnKey) (i : ℕ) → (IsMovable design i → ⊥) → AreTurnKeysBelow design i keys → AreTurnKeysBelow design (i + 1) keys
  keys_skip keys i stays done = record {
    each = done.each;
    below = All-weaker (λ k. k.number < i) (λ k. k.number < i + 1) (λ k below. omega arith) keys done.below;
    all = λ c below m. elim (cases_lt c i) [
      | inl earlier ↦ done.all c earlier m
      | inr late ↦ let here : c ≡ i = omega arith in absurd (stays (rw here at m))
    ];
    rising = done.rising;
  }

  -- the keys once they are sorted
  pub order_from_sort : (keys sorted : List TurnKey) → AreTurnKeysBelow design (length design.components) keys → IsPermutation keys sorted
      → IsSorted key_cmp sorted → AreInOrder design sorted
  order_from_sort keys sorted are moved up =
      let alike : TurnKey → TurnKey → Bool = λ a b. eqb a.number b.number in
      let start : IsDistinct alike keys =
      IsDistinct-from_apart alike keys (λ i j d order within.
      let rise = are.rising i j d order within in
      ne_eqb (get_or keys i d).number (get_or keys j d).number (λ same. omega arith)) in
      let apart = IsDistinct-IsPermutation alike (λ a b. nat_eq_equiv.symm a.number b.number) keys sorted moved start in
      let each : All (IsTurnKeyOf design) sorted = All-permutation (IsTurnKeyOf design) keys sorted moved are.each in
      let rising : AllPairs IsBelow sorted = λ i j d order within.
      below_from_test (get_or sorted i d) (get_or sorted j d)
      (sorted_far (λ x y. is_lt (key_cmp x y)) (ranks_by key_cmp_total (λ x. x)) sorted up i j d (omega arith) within)
      (eqb-false (get_or sorted i d).number (get_or sorted j d).number (apart_from_distinct alike sorted i j d apart order within)) in
      record {
        each = each;
        order = record {
          in_order = AllPairs-map_where IsBelow (IsTakenBefore design) (λ k. k.number) (IsTurnKeyOf design) taken_before sorted each rising;
          each = All-map (IsMovable design) (λ (k : TurnKey). k.number) sorted
              (All-weaker (IsTurnKeyOf design) (λ k. IsMovable design k.number) (λ k is. is.movable) sorted each);
          all = λ c m.
              Contains-permutation (numbers keys) (numbers sorted) c (IsPermutation-map (λ (k : TurnKey). k.number) keys sorted moved)
              (are.all c (slice_get_within design.components c m.component m.there) m);
        };
      }
