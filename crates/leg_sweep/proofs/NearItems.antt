-- The earlier items that are near one on its layer, found among the nodes of the layer.
use Rattle.std.proofs.Common.{◌≡◌, ◌≢◌, ℕ, zero, suc, ◌+◌, ◌-◌, ◌<◌, ◌≤◌, ◌==◌, Bool, true, false, cond, leb, ltb, eqb, List, [], ◌∷◌, ◌++◌, length, get_or, take, map, filter, count_by, Option, None, Some, slice_get, All, AllPairs, Contains, IsPermutation, inl, inr, refl, sym, ap, subst, ◌∙◌, ◌≤ℤ◌, arith}
use Rattle.std.specs.Cmp.Derive.{both_true}
use Rattle.std.specs.List.{range_with_len, IsDistinct}
use Rattle.std.specs.Option.{option_map}
use Rattle.std.proofs.lemmas.Bool.{eqb-true, eqb-false, ne_eqb, eq-eqb, lt-ltb, ltb-true, le-leb, and_parts}
use Rattle.std.proofs.lemmas.Cmp.{nat_eq_equiv}
use Rattle.std.proofs.lemmas.List.{get_or-map, get_or_read, length-map}
use Rattle.std.proofs.lemmas.List.Elements.{All-contains, All-weaker}
use Rattle.std.proofs.lemmas.List.Kept.{AllPairs-filter}
use Rattle.std.proofs.lemmas.List.Sorted.{Contains-permutation, IsPermutation-sym}
use Rattle.std.proofs.lemmas.List.Sums.{sum_by_more, sum_by_push}
use Rattle.std.proofs.lemmas.Map.Keys.{IsDistinct-from_apart, apart_from_distinct, IsDistinct-IsPermutation}
use Rattle.std.proofs.lemmas.Option.{slice_get-map, slice_get_cases, slice_get_within, get_or_from_slice_get, same_Some}
use Rattle.leg_lemmas.proofs.Places.{contains_at, get_or_mapped}
use Rattle.leg_lemmas.proofs.Contents.{All-from_contains, Contains-filter, Contains-from_filter}
use Rattle.leg_lemmas.proofs.Ranges.{range_more, range_rises}
use Rattle.leg_geom.specs.Plane.{RectModel, IsRect}
use Rattle.leg_geom.specs.Gap.{x_gap, y_gap}
use Rattle.leg_sweep.specs.declared.node.Node.{Node}
use Rattle.leg_sweep.specs.Counts.{near_on_layer_along_x, near_on_layer, count_pairs}
use Rattle.leg_sweep.specs.NearNumbers.{is_near, numbers_of, near_numbers}
use Rattle.leg_sweep.specs.Near.{IsNear}
use Rattle.leg_geom.specs.Pairs.{IsPair}
use Rattle.leg_sweep.specs.Steps.Cut.{cut_at, left_edge_at, AreCut}
use Rattle.leg_sweep.specs.Steps.Layers.{is_on, numbers_on, AreNodesByLayer}
use Rattle.leg_sweep.specs.Steps.Nodes.{AreNodesOf}
use Rattle.leg_sweep.specs.Steps.Sweep.{unit_square, rect_numbered, ordered, AreInReach, CanMeet, IsLeftToRight, AreNewPairs}
use Rattle.leg_sweep.proofs.Counts.{count_pairs-le, length_of_all}
use Rattle.leg_sweep.proofs.Cuts.{x_gap_kept}
use Rattle.leg_sweep.proofs.FewPairs.{number_below, below_number}
use Rattle.leg_sweep.proofs.MetItems.{count_by-le_within}
use Rattle.leg_sweep.proofs.NearNodes.{near_is, is_near_passes}
use Rattle.leg_sweep.proofs.Nearness.{x_gap_symmetric, y_gap_symmetric}
use Rattle.leg_sweep.proofs.Places.{last_furthest}
use Rattle.leg_sweep.proofs.Turns.{ordered_below}

-- numbers that differ from one another do so in another order
apart_moved : (xs ys : List ℕ) → IsPermutation xs ys → AllPairs (λ x y. x ≢ y) xs → AllPairs (λ x y. x ≢ y) ys
apart_moved xs ys moved apart i j d low high =
    let start : IsDistinct eqb xs = IsDistinct-from_apart eqb xs (λ k l e first second. ne_eqb _ _ (apart k l e first second)) in
    eqb-false _ _ (apart_from_distinct eqb ys i j d (IsDistinct-IsPermutation eqb nat_eq_equiv.symm xs ys moved start) low high)

-- the first numbers differ from one another
range_apart : (n : ℕ) → AllPairs (λ x y. x ≢ y) (range_with_len 0 n)
range_apart n i j d low high same = omega (arith, same, range_rises 0 n i j d low high)

module _ {X : Type 0} where
  -- whether there is an element with a number, and it passes a test
  abbrev pub passes_at : (X → Bool) → List X → ℕ → Bool
  passes_at test xs number = of (slice_get xs number) where
    of : Option X → Bool
    of None = false
    of (Some x) = test x

  passes_read : (test : X → Bool) (xs : List X) (number : ℕ) (x : X) → slice_get xs number ≡ Some x → passes_at test xs number ≡ test x
  passes_read test xs number x is = rw is refl

  -- a count over the first elements, by their numbers
  count_at : (test : X → Bool) (xs : List X) (n : ℕ) → n ≤ length xs → count_by (passes_at test xs) (range_with_len 0 n) ≡ count_by test (take n xs)
  count_at test xs zero few = refl
  count_at test xs (suc n) few =
      let within : n < length xs = omega (arith, few) in
      let next : n + 1 ≡ suc n = omega arith in
      let numbers : range_with_len 0 (suc n) ≡ range_with_len 0 n ++ n ∷ [] = rw next at (range_more 0 n n (omega arith)) in
      elim (slice_get_cases xs n).1 [
        | inl (x, inside, there, is) ↦
            let grown = rw (is, next) at (sum_by_more (λ (y : X). cond (test y) 1 0) xs n x within) in
            let read : ◌≡◌ {A = ℕ} (cond (passes_at test xs n) 1 0) (cond (test x) 1 0) = ap (λ b. cond b 1 0) (passes_read test xs n x there) in
            rw numbers (omega (
              arith,
              sum_by_push (λ (k : ℕ). cond (passes_at test xs k) 1 0) (range_with_len 0 n) n,
              count_at test xs n (omega (arith, few)),
              grown,
              read,
            ))
        | inr past ↦ absurd (omega (arith, past.0, within))
      ]

-- an earlier item, near another one on its layer
pub record IsEarlier {Item : Type 0} (rect_of : Item → RectModel) (layer_of : Item → ℕ) (reach_of : ℕ → ℕ) (items : List Item) (n : ℕ) (b : Item)
    (x : ℕ) : Type 0 where
  pub item : Item
  pub there : slice_get items x ≡ Some item
  pub earlier : x < n
  pub near : near_on_layer rect_of layer_of reach_of item b ≡ true

module _ {Item : Type 0} (Holds : Item → Item → Type 0) (rect_of : Item → RectModel) (layer_of : Item → ℕ) (reach_of : ℕ → ℕ)
    (layered : (a b : Item) → Holds a b → layer_of a ≡ layer_of b)
    (law : (a b : Item) → Holds a b → (x_gap (rect_of a) (rect_of b) ≤ reach_of (layer_of a)) × (y_gap (rect_of a) (rect_of b) ≤ reach_of (layer_of a)))
    (items : List Item) (rects : List RectModel) (cut : AreCut rect_of items rects) (layers : ℕ) (nodes : List (List Node))
    (are : AreNodesByLayer rects (map layer_of items) layers nodes)
    (n : ℕ) (b : Item) (b_at : slice_get items n ≡ Some b) (b_in : layer_of b < layers) where
  abbrev of_layer : List Node
  of_layer = get_or nodes (layer_of b) []

  abbrev pub near_found : List ℕ
  near_found = filter (λ x. ltb x n) (near_numbers rects (rect_numbered rects n) (reach_of (layer_of b)) of_layer)

  -- the rectangle of an item is cut
  rect_at : (x : ℕ) (a : Item) → slice_get items x ≡ Some a → slice_get rects x ≡ Some (cut_at cut.line (rect_of a))
  rect_at x a got =
      let v : Item → RectModel = λ (c : Item). cut_at cut.line (rect_of c) in
      rw cut.are (slice_get-map v items x ∙ ap (λ o. option_map v o) got)

  rect_is : rect_numbered rects n ≡ cut_at cut.line (rect_of b)
  rect_is = get_or_from_slice_get rects n (cut_at cut.line (rect_of b)) unit_square (rect_at n b b_at)

  proper_at : (x : ℕ) (a : Item) → slice_get items x ≡ Some a → IsRect (rect_of a)
  proper_at x a got = All-contains (λ c. IsRect (rect_of c)) items a cut.proper (contains_at items x a got)

  left_at : (x : ℕ) (a : Item) → slice_get items x ≡ Some a → (rect_of a).x1 ≤ℤ cut.line
  left_at x a got = All-contains (λ c. (rect_of c).x1 ≤ℤ cut.line) items a cut.left (contains_at items x a got)

  -- the gaps of cut rectangles are those of the items
  x_gap_is : (x : ℕ) (a : Item) → slice_get items x ≡ Some a → x_gap (rect_numbered rects n) (cut_at cut.line (rect_of a)) ≡ x_gap (rect_of a) (rect_of b)
  x_gap_is x a got =
      rw rect_is
      (x_gap_kept cut.line (rect_of b) (rect_of a) (proper_at n b b_at) (proper_at x a got) (left_at n b b_at) (left_at x a got)
      ∙ x_gap_symmetric (rect_of b) (rect_of a) (proper_at n b b_at) (proper_at x a got))

  y_gap_is : (x : ℕ) (a : Item) → slice_get items x ≡ Some a → y_gap (rect_numbered rects n) (cut_at cut.line (rect_of a)) ≡ y_gap (rect_of a) (rect_of b)
  y_gap_is x a got = rw rect_is (y_gap_symmetric (rect_of b) (rect_of a) (proper_at n b b_at) (proper_at x a got))

  -- the nodes of the layer are those of the items on it
  on_layer_nodes : AreNodesOf rects (numbers_on (map layer_of items) (layer_of b) (length rects)) of_layer
  on_layer_nodes = are.each (layer_of b) b_in

  long : length rects ≡ length items
  long = ap length cut.are ∙ length-map items (λ (c : Item). cut_at cut.line (rect_of c))

  near_from : (x : ℕ) (a : Item) → slice_get items x ≡ Some a → layer_of a ≡ layer_of b → IsNear rects (rect_numbered rects n) (reach_of (layer_of b)) x
      → near_on_layer rect_of layer_of reach_of a b ≡ true
  near_from x a got same near =
      let other : near.other ≡ cut_at cut.line (rect_of a) = same_Some _ _ (sym near.there ∙ rect_at x a got) in
      let x_near : x_gap (rect_of a) (rect_of b) ≤ reach_of (layer_of a) = let g = rw other at near.x in rw same (omega (arith, g, x_gap_is x a got)) in
      let y_near : y_gap (rect_of a) (rect_of b) ≤ reach_of (layer_of a) = let g = rw other at near.y in rw same (omega (arith, g, y_gap_is x a got)) in
      both_true (eq-eqb _ _ same) (both_true (le-leb _ _ x_near) (le-leb _ _ y_near))

  -- what is found is earlier and near
  pub found_is : (x : ℕ) → Contains near_found x → IsEarlier rect_of layer_of reach_of items n b x
  found_is x c =
      let outer = Contains-from_filter (λ y. ltb y n) (near_numbers rects (rect_numbered rects n) (reach_of (layer_of b)) of_layer) x c in
      let inner = Contains-from_filter (is_near rects (rect_numbered rects n) (reach_of (layer_of b))) (numbers_of of_layer) x outer.0 in
      let numbers = numbers_on (map layer_of items) (layer_of b) (length rects) in
      let listed = Contains-permutation (numbers_of of_layer) numbers x (IsPermutation-sym numbers (numbers_of of_layer) on_layer_nodes.once) inner.0 in
      let on = Contains-from_filter (is_on (map layer_of items) (layer_of b)) (range_with_len 0 (length rects)) x listed in
      let earlier : x < n = ltb-true x n outer.1 in
      elim (slice_get_cases items x).1 [
        | inl (a, inside, there, is) ↦
            let same : layer_of a ≡ layer_of b = sym (get_or_mapped layer_of items x a 0 there) ∙ eqb-true _ _ on.1 in
            record {
              item = a;
              there = there;
              earlier = earlier;
              near = near_from x a there same (near_is rects (rect_numbered rects n) (reach_of (layer_of b)) x inner.1);
            }
        | inr past ↦ absurd (omega (arith, past.0, earlier, slice_get_within items n b b_at))
      ]

  -- an earlier item is found where the rule holds
  pub found_has : (x : ℕ) (a : Item) → slice_get items x ≡ Some a → x < n → Holds a b → Contains near_found x
  found_has x a got earlier holds =
      let same : layer_of a ≡ layer_of b = layered a b holds in
      let within : x < length rects = omega (arith, long, slice_get_within items x a got) in
      let numbers = numbers_on (map layer_of items) (layer_of b) (length rects) in
      let on : is_on (map layer_of items) (layer_of b) x ≡ true = eq-eqb _ _ (get_or_mapped layer_of items x a 0 got ∙ same) in
      let listed = Contains-filter (is_on (map layer_of items) (layer_of b)) x (range_with_len 0 (length rects)) on (below_number (length rects) x within) in
      let in_nodes = Contains-permutation numbers (numbers_of of_layer) x on_layer_nodes.once listed in
      let gaps = rw same at (law a b holds) in
      let near =
      is_near_passes rects (rect_numbered rects n) (reach_of (layer_of b)) x
      (record {
        other = cut_at cut.line (rect_of a);
        there = rect_at x a got;
        x = omega (arith, gaps.0, x_gap_is x a got);
        y = omega (arith, gaps.1, y_gap_is x a got);
      }) in
      Contains-filter (λ y. ltb y n) x (near_numbers rects (rect_numbered rects n) (reach_of (layer_of b)) of_layer) (lt-ltb x n earlier)
      (Contains-filter (is_near rects (rect_numbered rects n) (reach_of (layer_of b))) x (numbers_of of_layer) near in_nodes)

  found_apart : AllPairs (λ x y. x ≢ y) near_found
  found_apart =
      let numbers = numbers_on (map layer_of items) (layer_of b) (length rects) in
      let start = AllPairs-filter (λ x y. x ≢ y) (is_on (map layer_of items) (layer_of b)) (range_with_len 0 (length rects)) (range_apart (length rects)) in
      AllPairs-filter (λ x y. x ≢ y) (λ y. ltb y n) (near_numbers rects (rect_numbered rects n) (reach_of (layer_of b)) of_layer)
      (AllPairs-filter (λ x y. x ≢ y) (is_near rects (rect_numbered rects n) (reach_of (layer_of b))) (numbers_of of_layer)
      (apart_moved numbers (numbers_of of_layer) on_layer_nodes.once start))

  -- the item can meet what is found
  pub found_can_meet : CanMeet Holds rect_of items (reach_of (layer_of b)) near_found n
  found_can_meet =
      let within = slice_get_within items n b b_at in
      record {
        new_in = within;
        waiting_in = All-from_contains (λ x. x < length items) near_found (λ x c. omega (arith, within, (found_is x c).earlier));
        others = All-from_contains (λ x. x ≢ n) near_found (λ x c same. omega (arith, same, (found_is x c).earlier));
        apart = found_apart;
        in_reach =
            All-from_contains (λ x. AreInReach Holds rect_of items (reach_of (layer_of b)) x n) near_found
            (λ x c a d a_got d_got holds.
            let is : d ≡ b = same_Some d b (sym d_got ∙ b_at) in
            let same : layer_of a ≡ layer_of b = layered a d holds ∙ ap layer_of is in
            rw same at (law a d holds));
      }

  -- and finds no more than it is near to
  pub found_few : length near_found ≤ count_by (λ a. near_on_layer rect_of layer_of reach_of a b) (take n items)
  found_few =
      let near : Item → Bool = λ (a : Item). near_on_layer rect_of layer_of reach_of a b in
      let fewer = count_by-le_within (λ x. true) (passes_at near items) near_found (range_with_len 0 n) found_apart
      (λ x c passes. let is = found_is x c in (below_number n x is.earlier, passes_read near items x is.item is.there ∙ is.near)) in
      omega (arith, fewer, length_of_all near_found, count_at near items n (omega (arith, slice_get_within items n b b_at)))

  -- so its pairs with what is found are those with all earlier items
  pub found_all_pairs : {Sink : Type 0} (Takes : Sink → ℕ × ℕ → Sink → Type 0) (tests later : ℕ) (before after : Sink) → tests ≤ later
      → AreNewPairs Takes (IsPair Holds items) near_found n tests before after
      → AreNewPairs Takes (IsPair Holds items) (range_with_len 0 n) n later before after
  found_all_pairs Takes tests later before after grown new = record {
    more = new.more;
    taken = new.taken;
    each = new.each;
    named = All-weaker (λ p. (x : ℕ) × Contains near_found x × (p ≡ ordered x n)) (λ p. (x : ℕ) × Contains (range_with_len 0 n) x × (p ≡ ordered x n))
        (λ p named. (named.0, below_number n named.0 (found_is named.0 named.1).earlier, named.2)) new.more new.named;
    distinct = new.distinct;
    all = λ x c pair.
        let earlier : x < n = number_below n x c in
        let h = subst (λ p. IsPair Holds items p) (ordered_below x n earlier) pair in
        let is : h.b ≡ b = same_Some h.b b (sym h.b_at ∙ b_at) in
        new.all x (found_has x h.a h.a_at earlier (rw is at h.holds)) pair;
    enough = omega (arith, grown, new.enough);
  }

-- what the nodes of the item's layer give, as they were read
pub found_read : (rects : List RectModel) (nodes : List (List Node)) (layer layer_is reach reach_is n : ℕ) (of_layer inside : List Node) (found : List ℕ)
    → layer ≡ layer_is → reach ≡ reach_is → layer < length nodes
    → of_layer ≡ get_or nodes layer of_layer → inside ≡ of_layer → found ≡ filter (λ x. ltb x n) (near_numbers rects (rect_numbered rects n) reach inside)
    → found ≡ filter (λ x. ltb x n) (near_numbers rects (rect_numbered rects n) reach_is (get_or nodes layer_is []))
found_read rects nodes layer layer_is reach reach_is n of_layer inside found same_layer same_reach within read is found_is =
    let nodes_read : inside ≡ get_or nodes layer [] = is ∙ get_or_read nodes layer of_layer within read [] in
    rw (← same_layer, ← same_reach, ← nodes_read) found_is

module _ {Item : Type 0} (rect_of : Item → RectModel) (items : List Item) (order : List ℕ) (sorted : IsLeftToRight (map rect_of items) order) where
  -- no item begins right of the last of the order
  pub left_of_last : All (λ a. (rect_of a).x1 ≤ℤ left_edge_at rect_of items (get_or order (length order - 1) 0)) items
  left_of_last k d within =
      rw (← get_or-map rect_of items k d unit_square within)
      (last_furthest (map rect_of items) order sorted k (omega (arith, length-map items rect_of, within)))

  pub all_cut : (rects : List RectModel) → rects ≡ map (λ a. cut_at (left_edge_at rect_of items (get_or order (length order - 1) 0)) (rect_of a)) items
      → AreCut rect_of items rects
  all_cut rects are = record {
    proper =
        λ k d within. rw (← get_or-map rect_of items k d unit_square within) (sorted.proper k unit_square (omega (arith, length-map items rect_of, within)));
    line = left_edge_at rect_of items (get_or order (length order - 1) 0);
    left = left_of_last;
    are = are;
  }

-- what is near along both axes is near along x
pub both_near_along_x : {Item : Type 0} (rect_of : Item → RectModel) (layer_of : Item → ℕ) (reach_of : ℕ → ℕ) (items : List Item)
    → count_pairs (near_on_layer rect_of layer_of reach_of) items ≤ count_pairs (near_on_layer_along_x rect_of layer_of reach_of) items
both_near_along_x rect_of layer_of reach_of items =
    count_pairs-le (near_on_layer rect_of layer_of reach_of) (near_on_layer_along_x rect_of layer_of reach_of) items
    (λ a b in_a in_b passes.
    let split = and_parts (layer_of a == layer_of b) _ passes in
    both_true split.0 (and_parts (leb (x_gap (rect_of a) (rect_of b)) (reach_of (layer_of a))) _ split.1).0)
