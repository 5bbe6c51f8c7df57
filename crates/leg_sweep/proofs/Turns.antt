-- One turn of the sweep: the pairs that a new item makes with active ones.
use Rattle.std.proofs.Common.{◌≡◌, ◌≢◌, ℕ, ◌+◌, ◌<◌, ◌≤◌, min, max, Bool, true, false, List, [], ◌∷◌, ◌++◌, length, get_or, take, map, filter, Some, slice_get, Contains, inl, inr, refl, sym, ap, subst, ◌∙◌, arith}
use Rattle.std.proofs.lemmas.Bool.{cases_lt}
use Rattle.std.proofs.lemmas.List.{append-nil, get_or-map, length-append, length_push}
use Rattle.std.proofs.lemmas.List.Elements.{filter_more, All-nil, All-push, All-append, All-weaker, Contains-append_left, Contains-append_right, Contains-append_cases, Contains-push, Contains-push_cases}
use Rattle.std.proofs.lemmas.List.Quantifiers.{all_pairs_push}
use Rattle.std.proofs.lemmas.Option.{same_Some}
use Rattle.leg_lemmas.proofs.Contents.{Contains-nil}
use Rattle.leg_lemmas.proofs.RisingLists.{AllPairs-nil, AllPairs-append_by}
use Rattle.leg_geom.specs.Pairs.{IsPair}
use Rattle.leg_geom.specs.Plane.{RectModel}
use Rattle.leg_sweep.specs.Steps.Sweep.{unit_square, rect_numbered, test_at, ordered, AreNewPairs}
use Rattle.leg_sweep.specs.Pairs.TakesAll.{none, more}
use Rattle.leg_sweep.proofs.SinkPairs.{takes_append}

pub ordered_below : (x n : ℕ) → x < n → ordered x n ≡ (x, n)
ordered_below x n below =
    let low : min x n ≡ x = omega arith in
    let high : max x n ≡ n = omega arith in
    cc

pub ordered_above : (x n : ℕ) → n ≤ x → ordered x n ≡ (n, x)
ordered_above x n above =
    let low : min x n ≡ n = omega arith in
    let high : max x n ≡ x = omega arith in
    cc

-- a pair and one of its numbers determine the other
same_partner : (x y n : ℕ) → ordered x n ≡ ordered y n → x ≡ y
same_partner x y n same =
    let low : min x n ≡ min y n = ap (λ (p : ℕ × ℕ). p.0) same in
    let high : max x n ≡ max y n = ap (λ (p : ℕ × ℕ). p.1) same in
    omega arith

module _ {Item : Type 0} (Holds : Item → Item → Type 0) (symmetric : (a b : Item) → Holds a b → Holds b a) (items : List Item) (x n : ℕ) (a b : Item)
    (a_at : slice_get items x ≡ Some a) (b_at : slice_get items n ≡ Some b) where
  -- two items for which the rule holds are a pair
  pub pair_from_holds : x ≢ n → Holds a b → IsPair Holds items (ordered x n)
  pair_from_holds apart holds =
      elim (cases_lt x n) [
        | inl below ↦ subst (λ p. IsPair Holds items p) (sym (ordered_below x n below))
            (record { a = a; b = b; a_at = a_at; b_at = b_at; in_order = below; holds = holds })
        | inr above ↦ subst (λ p. IsPair Holds items p) (sym (ordered_above x n above))
            (record { a = b; b = a; a_at = b_at; b_at = a_at; in_order = omega (arith, apart); holds = symmetric a b holds })
      ]

  -- and of no others it holds
  pub holds_from_pair : IsPair Holds items (ordered x n) → Holds a b
  holds_from_pair pair =
      elim (cases_lt x n) [
        | inl below ↦
            let h = subst (λ p. IsPair Holds items p) (ordered_below x n below) pair in
            let a_is : h.a ≡ a = same_Some h.a a (sym h.a_at ∙ a_at) in
            let b_is : h.b ≡ b = same_Some h.b b (sym h.b_at ∙ b_at) in
            rw (a_is, b_is) at h.holds
        | inr above ↦
            let h = subst (λ p. IsPair Holds items p) (ordered_above x n above) pair in
            let b_is : h.a ≡ b = same_Some h.a b (sym h.a_at ∙ b_at) in
            let a_is : h.b ≡ a = same_Some h.b a (sym h.b_at ∙ a_at) in
            symmetric b a (rw (a_is, b_is) at h.holds)
      ]

module _ {Sink : Type 0} (Takes : Sink → ℕ × ℕ → Sink → Type 0) (IsOne : ℕ × ℕ → Type 0) (new : ℕ) (before : Sink) where
  -- no pair yet
  pub new_pairs_none : AreNewPairs Takes IsOne [] new 0 before before
  new_pairs_none = record {
    more = [];
    taken = none;
    each = All-nil IsOne;
    named = All-nil (λ p. (x : ℕ) × Contains [] x × (p ≡ ordered x new));
    distinct = AllPairs-nil (λ p q. p ≢ q);
    all = λ x c h. absurd (Contains-nil x c);
    enough = omega arith;
  }

  -- one more waiting item, which makes no pair
  pub new_pairs_skip : (done : List ℕ) (x tests later : ℕ) (after : Sink) → (IsOne (ordered x new) → ⊥) → tests ≤ later
      → AreNewPairs Takes IsOne done new tests before after → AreNewPairs Takes IsOne (done ++ x ∷ []) new later before after
  new_pairs_skip done x tests later after is_none grown so_far = record {
    more = so_far.more;
    taken = so_far.taken;
    each = so_far.each;
    named =
        All-weaker (λ p. (y : ℕ) × Contains done y × (p ≡ ordered y new)) (λ p. (y : ℕ) × Contains (done ++ x ∷ []) y × (p ≡ ordered y new))
        (λ p n. (n.0, Contains-append_left done (x ∷ []) n.0 n.1, n.2)) so_far.more so_far.named;
    distinct = so_far.distinct;
    all = λ y c h. elim (Contains-push_cases done x y c) [
      | inl earlier ↦ so_far.all y earlier h
      | inr here ↦ absurd (is_none (rw here h))
    ];
    enough = omega (arith, so_far.enough, grown);
  }

  -- one more waiting item, which makes one
  pub new_pairs_more : (done : List ℕ) (x tests : ℕ) (between after : Sink) → IsOne (ordered x new) → (Contains done x → ⊥)
      → Takes between (ordered x new) after → AreNewPairs Takes IsOne done new tests before between
      → AreNewPairs Takes IsOne (done ++ x ∷ []) new (tests + 1) before after
  new_pairs_more done x tests between after is_one not_done step so_far =
      let pair = ordered x new in
      record {
        more = so_far.more ++ pair ∷ [];
        taken = more so_far.taken step;
        each = All-push IsOne so_far.more pair so_far.each is_one;
        named =
            All-push (λ p. (y : ℕ) × Contains (done ++ x ∷ []) y × (p ≡ ordered y new)) so_far.more pair
            (All-weaker (λ p. (y : ℕ) × Contains done y × (p ≡ ordered y new)) (λ p. (y : ℕ) × Contains (done ++ x ∷ []) y × (p ≡ ordered y new))
            (λ p n. (n.0, Contains-append_left done (x ∷ []) n.0 n.1, n.2)) so_far.more so_far.named)
            (x, Contains-push done x, refl);
        distinct =
            all_pairs_push (λ p q. p ≢ q) so_far.more pair so_far.distinct
            (λ k d within same.
            let n = so_far.named k d within in
            let y_is : n.0 ≡ x = same_partner n.0 x new (sym n.2 ∙ same) in
            not_done (rw y_is at n.1));
        all = λ y c h. elim (Contains-push_cases done x y c) [
          | inl earlier ↦ Contains-append_left so_far.more (pair ∷ []) (ordered y new) (so_far.all y earlier h)
          | inr here ↦ rw (← here) (Contains-push so_far.more pair)
        ];
        enough = omega (arith, so_far.enough, length_push so_far.more pair);
      }

  -- the pairs with the items of a list, and then with those of another one
  pub new_pairs_append : (first second : List ℕ) (tests later : ℕ) (between after : Sink) → ((x : ℕ) → Contains first x → Contains second x → ⊥)
      → AreNewPairs Takes IsOne first new tests before between → AreNewPairs Takes IsOne second new later between after
      → AreNewPairs Takes IsOne (first ++ second) new (tests + later) before after
  new_pairs_append first second tests later between after differ a b = record {
    more = a.more ++ b.more;
    taken = takes_append Takes before a.more between b.more after a.taken b.taken;
    each = All-append IsOne a.more b.more a.each b.each;
    named =
        All-append (λ p. (y : ℕ) × Contains (first ++ second) y × (p ≡ ordered y new)) a.more b.more
        (All-weaker (λ p. (y : ℕ) × Contains first y × (p ≡ ordered y new)) (λ p. (y : ℕ) × Contains (first ++ second) y × (p ≡ ordered y new))
        (λ p n. (n.0, Contains-append_left first second n.0 n.1, n.2)) a.more a.named)
        (All-weaker (λ p. (y : ℕ) × Contains second y × (p ≡ ordered y new)) (λ p. (y : ℕ) × Contains (first ++ second) y × (p ≡ ordered y new))
        (λ p n. (n.0, Contains-append_right first second n.0 n.1, n.2)) b.more b.named);
    distinct =
        AllPairs-append_by (λ p q. p ≢ q) (λ p. (y : ℕ) × Contains first y × (p ≡ ordered y new)) (λ p. (y : ℕ) × Contains second y × (p ≡ ordered y new))
        (λ p q in_first in_second same.
        let partner : in_first.0 ≡ in_second.0 = same_partner in_first.0 in_second.0 new (sym in_first.2 ∙ same ∙ in_second.2) in
        differ in_first.0 in_first.1 (rw (sym partner) at in_second.1))
        a.more b.more a.named b.named a.distinct b.distinct;
    all = λ y c h. elim (Contains-append_cases first second y c) [
      | inl in_first ↦ Contains-append_left a.more b.more (ordered y new) (a.all y in_first h)
      | inr in_second ↦ Contains-append_right a.more b.more (ordered y new) (b.all y in_second h)
    ];
    enough = omega (arith, a.enough, b.enough, length-append a.more b.more);
  }

module _ {Item : Type 0} (rect_of : Item → RectModel) (items : List Item) where
  -- the rectangle of an item that was read
  pub rect_of_read : (x : ℕ) (a : Item) → x < length items → a ≡ get_or items x a → rect_numbered (map rect_of items) x ≡ rect_of a
  rect_of_read x a within read = get_or-map rect_of items x a unit_square within ∙ ap rect_of (sym read)

  -- a test of two items that were read
  pub test_of_read : (test : RectModel → RectModel → Bool) (x y : ℕ) (a b : Item) → x < length items → y < length items → a ≡ get_or items x a
      → b ≡ get_or items y b
      → test_at test (map rect_of items) x y ≡ test (rect_of a) (rect_of b)
  test_of_read test x y a b x_in y_in a_read b_read = rw (rect_of_read x a x_in a_read, rect_of_read y b y_in b_read)

module _ {X : Type 0} (test : X → Bool) (xs : List X) (i : ℕ) (x : X) (within : i < length xs) (kept : List X) (is : kept ≡ filter test (take i xs)) where
  -- the next element passes
  pub filter_yes : test (get_or xs i x) ≡ true → kept ++ get_or xs i x ∷ [] ≡ filter test (take (i + 1) xs)
  filter_yes passes = rw (is, filter_more test xs i x within, passes)

  -- it does not
  pub filter_no : test (get_or xs i x) ≡ false → kept ≡ filter test (take (i + 1) xs)
  filter_no fails = rw (filter_more test xs i x within, fails) (is ∙ sym (append-nil (filter test (take i xs))))
