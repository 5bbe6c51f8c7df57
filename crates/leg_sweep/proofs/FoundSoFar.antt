-- What the sweep over bands found, and how often it asked.
use Rattle.std.proofs.Common.{◌≡◌, ◌≢◌, ℕ, ◌+◌, ◌-◌, ◌<◌, ◌≤◌, Bool, true, leb, List, [], ◌++◌, length, get_or, take, map, count_by, Some, slice_get, AllPairs, Contains, inl, inr, refl, sym, ap, subst, ◌∙◌, arith}
use Rattle.std.specs.Cmp.Derive.{both_true}
use Rattle.std.specs.Option.{option_map}
use Rattle.std.proofs.lemmas.Bool.{cases_lt, cases_eq, leb-true, le-leb, and_parts}
use Rattle.std.proofs.lemmas.List.{length-append, length-map, length-take-le}
use Rattle.std.proofs.lemmas.List.Elements.{All-nil}
use Rattle.std.proofs.lemmas.Option.{slice_get-map, slice_get_within, get_or_from_slice_get}
use Rattle.leg_lemmas.proofs.Contents.{Contains-nil, All-from_contains}
use Rattle.leg_lemmas.proofs.RisingLists.{AllPairs-nil}
use Rattle.leg_geom.specs.Plane.{RectModel}
use Rattle.leg_geom.specs.Gap.{x_gap}
use Rattle.leg_sweep.specs.declared.band.BandRange.{BandRange}
use Rattle.leg_sweep.specs.Pairs.{TakesAll, TookPairs}
use Rattle.leg_geom.specs.Pairs.{IsPair}
use Rattle.leg_sweep.specs.Pairs.TakesAll.{none}
use Rattle.leg_sweep.specs.Counts.{near_along_x, near_along_both}
use Rattle.leg_sweep.specs.Steps.Bands.{Waiting, waiting_at, range_at, reach_at, share_band, near_in_band, near_both_in_band, met, AreBandRanges, AreEmpty, AreVisited, CanVisit}
use Rattle.leg_sweep.specs.Steps.Sweep.{unit_square, rect_numbered, test_at, ordered, AreInReach, CanMeet, IsLeftToRight, AreNewPairs}
use Rattle.leg_sweep.proofs.Counts.{length_of_all}
use Rattle.leg_sweep.proofs.MetItems.{begun_in, passing_in, visited_by, are_met, met_apart, count_by-le_within}
use Rattle.leg_sweep.proofs.Places.{order_below, order_differs, order_between}
use Rattle.leg_sweep.proofs.Progress.{place_in_front, place_of, numbers_contain}
use Rattle.leg_sweep.proofs.SweepSoFar.{SweptTo, swept_more}
use Rattle.leg_sweep.proofs.SinkPairs.{takes_append}
use Rattle.leg_sweep.proofs.Turns.{ordered_below, ordered_above}

-- The items up to a place of the order are in, and the sink took the pairs among them.
pub record FoundTo {Sink : Type 0} (Takes : Sink → ℕ × ℕ → Sink → Type 0) (near : ℕ → ℕ → Bool) (IsOne : ℕ × ℕ → Type 0) (ranges : List BandRange)
    (order : List ℕ) (i : ℕ) (bands : List Waiting) (tests : ℕ) (before after : Sink) : Type 0 where
  pub found : List (ℕ × ℕ)
  pub swept : SweptTo near IsOne (λ x. (range_at ranges x).first) (λ x. (range_at ranges x).last) order i (begun_in bands) (passing_in bands) found
  pub taken : TakesAll Takes before found after
  pub enough : length found ≤ tests

abbrev pub first_at : List BandRange → ℕ → ℕ
first_at ranges x = (range_at ranges x).first

abbrev pub last_at : List BandRange → ℕ → ℕ
last_at ranges x = (range_at ranges x).last

-- a common band of two items
pub shared : (ranges : List BandRange) (x y : ℕ) → share_band ranges x y ≡ true
    → (first_at ranges x ≤ last_at ranges y) × (first_at ranges y ≤ last_at ranges x)
shared ranges x y share =
    let both = and_parts (leb (first_at ranges x) (last_at ranges y)) (leb (first_at ranges y) (last_at ranges x)) share in
    (leb-true _ _ both.0, leb-true _ _ both.1)

pub shares : (ranges : List BandRange) (x y : ℕ) → first_at ranges x ≤ last_at ranges y → first_at ranges y ≤ last_at ranges x
    → share_band ranges x y ≡ true
shares ranges x y first second = both_true (le-leb _ _ first) (le-leb _ _ second)

-- a visit leaves each band its reach
pub reaches_after : (narrow : ℕ → Bool) (first last new : ℕ) (before after : List Waiting) → AreVisited narrow first last new before after → (k : ℕ)
    → (waiting_at after k).reach ≡ (waiting_at before k).reach
reaches_after narrow first last new before after visited k =
    elim (cases_lt k first) [
      | inl below ↦ ap (λ (w : Waiting). w.reach) (visited.below k below)
      | inr at_least ↦ elim (cases_lt last k) [
        | inl above ↦ ap (λ (w : Waiting). w.reach) (visited.above k above)
        | inr at_most ↦ elim (cases_eq k first) [
          | inl here ↦ rw here (ap (λ (w : Waiting). w.reach) visited.begun)
          | inr other ↦ ap (λ (w : Waiting). w.reach) (visited.passed k (omega (arith, other, at_least)) at_most)
        ]
      ]
    ]

-- what near items are
pub near_split : (rects : List RectModel) (ranges : List BandRange) (start : List Waiting) (x y : ℕ) → near_in_band rects ranges start x y ≡ true
    → (share_band ranges x y ≡ true) × (test_at (near_along_x (reach_at ranges start x)) rects x y ≡ true)
near_split rects ranges start x y is_near = and_parts (share_band ranges x y) (test_at (near_along_x (reach_at ranges start x)) rects x y) is_near

module _ {Item : Type 0} (Holds : Item → Item → Type 0) (symmetric : (a b : Item) → Holds a b → Holds b a)
    (rect_of : Item → RectModel) (items : List Item) (ranges : List BandRange) (start : List Waiting)
    (are : AreBandRanges Holds rect_of items ranges start) where
  rect_of_got : (x : ℕ) (a : Item) → slice_get items x ≡ Some a → rect_numbered (map rect_of items) x ≡ rect_of a
  rect_of_got x a got = get_or_from_slice_get (map rect_of items) x (rect_of a) unit_square (slice_get-map rect_of items x ∙ ap (λ o. option_map rect_of o) got)

  -- items for which the rule holds are near
  near_held : (x y : ℕ) (a b : Item) → slice_get items x ≡ Some a → slice_get items y ≡ Some b → Holds a b → share_band ranges x y ≡ true
      → near_in_band (map rect_of items) ranges start x y ≡ true
  near_held x y a b a_at b_at holds share =
      let gaps = are.in_reach x y a b a_at b_at holds in
      let test : test_at (near_along_x (reach_at ranges start x)) (map rect_of items) x y ≡ true =
      rw (rect_of_got x a a_at, rect_of_got y b b_at) (le-leb (x_gap (rect_of a) (rect_of b)) (reach_at ranges start x) gaps.0) in
      both_true share test

  pub pairs_near : (x y : ℕ) → IsPair Holds items (ordered x y) → near_in_band (map rect_of items) ranges start x y ≡ true
  pairs_near x y h =
      elim (cases_lt x y) [
        | inl below ↦
            let pair = subst (λ p. IsPair Holds items p) (ordered_below x y below) h in
            let common = are.meet (x, y) pair in
            near_held x y pair.a pair.b pair.a_at pair.b_at pair.holds (shares ranges x y common.0 common.1)
        | inr above ↦
            let pair = subst (λ p. IsPair Holds items p) (ordered_above x y above) h in
            let common = are.meet (y, x) pair in
            near_held x y pair.b pair.a pair.b_at pair.a_at (symmetric pair.a pair.b pair.holds) (shares ranges x y common.1 common.0)
      ]

  -- two items of a common band have one reach
  pub reach_shared : (x k y : ℕ) → x < length items → y < length items → first_at ranges x ≤ k → k ≤ last_at ranges x → first_at ranges y ≤ k
      → k ≤ last_at ranges y
      → reach_at ranges start x ≡ reach_at ranges start y
  reach_shared x k y x_in y_in x_low x_high y_low y_high = sym (are.one_reach x k x_in x_low x_high) ∙ are.one_reach y k y_in y_low y_high

  pub reach_if_shared : (x y : ℕ) → x < length items → y < length items → share_band ranges x y ≡ true
      → reach_at ranges start x ≡ reach_at ranges start y
  reach_if_shared x y x_in y_in share =
      let common = shared ranges x y share in
      elim (cases_lt (first_at ranges x) (first_at ranges y)) [
        | inl below ↦ reach_shared x (first_at ranges y) y x_in y_in (omega (arith, below)) common.1 (omega arith) (are.upward y y_in)
        | inr above ↦ reach_shared x (first_at ranges x) y x_in y_in (omega arith) (are.upward x x_in) above common.0
      ]

  module _ (order : List ℕ) (sorted : IsLeftToRight (map rect_of items) order) where
    pub in_items : (a : ℕ) → a < length order → get_or order a 0 < length items
    in_items a within = omega (arith, order_below (map rect_of items) order sorted a within, length-map items rect_of)

    near_between_bands : (a b c : ℕ) → a ≤ b → b ≤ c → c < length order
        → near_in_band (map rect_of items) ranges start (get_or order a 0) (get_or order c 0) ≡ true
        → first_at ranges (get_or order a 0) ≤ last_at ranges (get_or order b 0)
        → first_at ranges (get_or order b 0) ≤ last_at ranges (get_or order a 0)
        → near_in_band (map rect_of items) ranges start (get_or order a 0) (get_or order b 0) ≡ true
    near_between_bands a b c low high within is_near first second =
        let split = near_split (map rect_of items) ranges start (get_or order a 0) (get_or order c 0) is_near in
        both_true (shares ranges (get_or order a 0) (get_or order b 0) first second)
        (order_between (map rect_of items) order sorted (reach_at ranges start (get_or order a 0)) a b c low high within split.1)

    module _ (i : ℕ) (in_order : i < length order) (bands : List Waiting) (found : List (ℕ × ℕ))
        (swept : SweptTo (near_in_band (map rect_of items) ranges start) (IsPair Holds items) (first_at ranges) (last_at ranges) order i
        (begun_in bands) (passing_in bands) found)
        (reaches : (k : ℕ) → (waiting_at bands k).reach ≡ (waiting_at start k).reach) (count : length bands ≡ length start) where
      -- an item that waits is an earlier one
      waits_in : (x : ℕ) → Contains (take i order) x → (a : ℕ) × (a < i) × (get_or order a 0 ≡ x)
      waits_in x c = place_in_front order i x (omega arith) c

      waits_below : (x : ℕ) → Contains (take i order) x → x < length items
      waits_below x c = let place = waits_in x c in rw (← place.2) (in_items place.0 (omega (arith, place.1)))

      waits_other : (x : ℕ) → Contains (take i order) x → x ≢ get_or order i 0
      waits_other x c same = let place = waits_in x c in order_differs (map rect_of items) order sorted place.0 i place.1 in_order (place.2 ∙ same)

      -- the reach of the new item's bands, and of those that wait there
      new_reach : (waiting_at bands (first_at ranges (get_or order i 0))).reach ≡ reach_at ranges start (get_or order i 0)
      new_reach = reaches (first_at ranges (get_or order i 0))

      can_meet : (k : ℕ) (list : List ℕ) → first_at ranges (get_or order i 0) ≤ k → k ≤ last_at ranges (get_or order i 0)
          → ((x : ℕ) → Contains list x → Contains (take i order) x × (first_at ranges x ≤ k) × (k ≤ last_at ranges x)) → AllPairs (λ x y. x ≢ y) list
          → CanMeet Holds rect_of items (waiting_at bands (first_at ranges (get_or order i 0))).reach list (get_or order i 0)
      can_meet k list low high in_band apart =
          let n = get_or order i 0 in
          record {
            new_in = in_items i in_order;
            waiting_in = All-from_contains (λ x. x < length items) list (λ x c. waits_below x (in_band x c).0);
            others = All-from_contains (λ x. x ≢ n) list (λ x c. waits_other x (in_band x c).0);
            apart = apart;
            in_reach =
                All-from_contains (λ x. AreInReach Holds rect_of items (waiting_at bands (first_at ranges n)).reach x n) list
                (λ x c.
                let there = in_band x c in
                let same = reach_shared x k n (waits_below x there.0) (in_items i in_order) there.1 there.2 low high in
                rw (new_reach ∙ sym same) (are.in_reach x n));
          }

      begun_upward : (k x : ℕ) → Contains (begun_in bands k) x → Contains (take i order) x × (first_at ranges x ≤ k) × (k ≤ last_at ranges x)
      begun_upward k x c =
          let was = swept.begun_in k x c in
          (was.0, omega (arith, was.1), omega (arith, was.1, are.upward x (waits_below x was.0)))

      -- the new item can visit its bands
      pub can_visit : CanVisit Holds rect_of items bands (first_at ranges (get_or order i 0)) (last_at ranges (get_or order i 0)) (get_or order i 0)
      can_visit =
          let n = get_or order i 0 in
          let n_in = in_items i in_order in
          record {
            upward = are.upward n n_in;
            there = omega (arith, count, are.there n n_in);
            one_reach = λ k low high. reaches k ∙ are.one_reach n k n_in low high ∙ sym new_reach;
            begun = λ k low high. can_meet k (begun_in bands k) low high (begun_upward k) (swept.begun_apart k);
            passing =
                can_meet (first_at ranges n) (passing_in bands (first_at ranges n)) (omega arith) (are.upward n n_in)
                (λ x c. let was = swept.passing_in (first_at ranges n) x c in (was.0, omega (arith, was.1), was.2))
                (swept.passing_apart (first_at ranges n));
            apart = λ j k x low before high in_j in_k. omega (arith, (swept.begun_in j x in_j).1, (swept.begun_in k x in_k).1, before);
            apart_passing =
                λ k x low high begins passes. omega (arith, (swept.begun_in k x begins).1, (swept.passing_in (first_at ranges n) x passes).1, low);
          }

      -- it meets each once
      new_apart : AllPairs (λ x y. x ≢ y) (met bands (first_at ranges (get_or order i 0))
          (last_at ranges (get_or order i 0) - first_at ranges (get_or order i 0)))
      new_apart =
          let n = get_or order i 0 in
          let can = can_visit in
          met_apart bands (first_at ranges n) (last_at ranges n)
          (λ k low high. (can.begun k low high).apart) can.passing.apart can.apart can.apart_passing
          (last_at ranges n - first_at ranges n) (omega (arith, can.upward))

      -- it is an earlier item of a common band, of the same reach
      met_common : (x : ℕ) → Contains (met bands (first_at ranges (get_or order i 0))
          (last_at ranges (get_or order i 0) - first_at ranges (get_or order i 0))) x
          → Contains (take i order) x × (share_band ranges x (get_or order i 0) ≡ true)
          × (reach_at ranges start x ≡ (waiting_at bands (first_at ranges (get_or order i 0))).reach)
      met_common x c =
          let n = get_or order i 0 in
          let n_in = in_items i in_order in
          let up = are.upward n n_in in
          elim ((are_met bands (first_at ranges n) (last_at ranges n) up).each x c) [
            | inl (k, low, high, there) ↦
                let was = begun_upward k x there in (
                  was.0,
                  shares ranges x n (omega (arith, was.1, high)) (omega (arith, was.2, low)),
                  reach_shared x k n (waits_below x was.0) n_in was.1 was.2 low high ∙ sym new_reach,
                )
            | inr passes ↦
                let was = swept.passing_in (first_at ranges n) x passes in (
                  was.0,
                  shares ranges x n (omega (arith, was.1, up)) was.2,
                  reach_shared x (first_at ranges n) n (waits_below x was.0) n_in (omega (arith, was.1)) was.2 (omega arith) up ∙ sym new_reach,
                )
          ]

      -- of those that are met no more are within the reach than earlier items are near
      pub met_near : count_by (λ x. test_at (near_along_x (waiting_at bands (first_at ranges (get_or order i 0))).reach) (map rect_of items) x
          (get_or order i 0))
          (met bands (first_at ranges (get_or order i 0)) (last_at ranges (get_or order i 0) - first_at ranges (get_or order i 0)))
          ≤ count_by (λ x. near_in_band (map rect_of items) ranges start x (get_or order i 0)) (take i order)
      met_near =
          let n = get_or order i 0 in
          count_by-le_within (λ x. test_at (near_along_x (waiting_at bands (first_at ranges n)).reach) (map rect_of items) x n)
          (λ x. near_in_band (map rect_of items) ranges start x n) _ (take i order) new_apart
          (λ x c passes.
          let common = met_common x c in
          let test : test_at (near_along_x (reach_at ranges start x)) (map rect_of items) x n ≡ true = rw common.2 passes in
          (common.0, both_true common.1 test))

      pub met_near_both : count_by (λ x. test_at (near_along_both (waiting_at bands (first_at ranges (get_or order i 0))).reach) (map rect_of items) x
          (get_or order i 0))
          (met bands (first_at ranges (get_or order i 0)) (last_at ranges (get_or order i 0) - first_at ranges (get_or order i 0)))
          ≤ count_by (λ x. near_both_in_band (map rect_of items) ranges start x (get_or order i 0)) (take i order)
      met_near_both =
          let n = get_or order i 0 in
          count_by-le_within (λ x. test_at (near_along_both (waiting_at bands (first_at ranges n)).reach) (map rect_of items) x n)
          (λ x. near_both_in_band (map rect_of items) ranges start x n) _ (take i order) new_apart
          (λ x c passes.
          let common = met_common x c in
          let test : test_at (near_along_both (reach_at ranges start x)) (map rect_of items) x n ≡ true = rw common.2 passes in
          (common.0, both_true common.1 test))

      -- it meets each earlier item at most once
      pub met_few : length (met bands (first_at ranges (get_or order i 0))
          (last_at ranges (get_or order i 0) - first_at ranges (get_or order i 0))) ≤ i
      met_few =
          let n = get_or order i 0 in
          let list = met bands (first_at ranges n) (last_at ranges n - first_at ranges n) in
          let all = count_by-le_within (λ x. true) (λ x. true) list (take i order) new_apart (λ x c passes. ((met_common x c).0, refl)) in
          omega (arith, all, length_of_all list, length_of_all (take i order), length-take-le i order (omega arith))

module _ {Sink : Type 0} (Takes : Sink → ℕ × ℕ → Sink → Type 0) {Item : Type 0} (Holds : Item → Item → Type 0)
    (symmetric : (a b : Item) → Holds a b → Holds b a)
    (rect_of : Item → RectModel) (items : List Item) (ranges : List BandRange) (start : List Waiting) (are : AreBandRanges Holds rect_of items ranges start)
    (order : List ℕ) (sorted : IsLeftToRight (map rect_of items) order) where
  -- before the first item
  pub found_none : (before : Sink) → AreEmpty start
      → FoundTo Takes (near_in_band (map rect_of items) ranges start) (IsPair Holds items) ranges order 0 start 0 before before
  found_none before empty =
      let no_begun : (k x : ℕ) → Contains (begun_in start k) x → ⊥ = λ k x c. Contains-nil x (rw (ap (λ (w : Waiting). w.begun) (empty k)) at c) in
      let no_passing : (k x : ℕ) → Contains (passing_in start k) x → ⊥ = λ k x c. Contains-nil x (rw (ap (λ (w : Waiting). w.passing) (empty k)) at c) in
      record {
        found = [];
        swept = record {
          begun_in = λ k x c. absurd (no_begun k x c);
          passing_in = λ k x c. absurd (no_passing k x c);
          begun_apart = λ k. rw (ap (λ (w : Waiting). w.begun) (empty k)) (AllPairs-nil (λ x y. x ≢ y));
          passing_apart = λ k. rw (ap (λ (w : Waiting). w.passing) (empty k)) (AllPairs-nil (λ x y. x ≢ y));
          begun_reached = λ a b before_it. absurd (omega (arith, before_it));
          passing_reached = λ a b k before_it. absurd (omega (arith, before_it));
          each = All-nil (IsPair Holds items);
          distinct = AllPairs-nil (λ p q. p ≢ q);
          within = All-nil (λ p. Contains (take 0 order) p.0 × Contains (take 0 order) p.1);
          all = λ a b first below. absurd (omega (arith, below));
        };
        taken = none;
        enough = omega arith;
      }

  -- one more item
  pub found_more : (i tests later : ℕ) (in_order : i < length order) (bands bands_after : List Waiting) (before between after : Sink)
      → FoundTo Takes (near_in_band (map rect_of items) ranges start) (IsPair Holds items) ranges order i bands tests before between
      → ((k : ℕ) → (waiting_at bands k).reach ≡ (waiting_at start k).reach) → length bands ≡ length start
      → AreVisited (λ x. test_at (near_along_x (waiting_at bands (first_at ranges (get_or order i 0))).reach) (map rect_of items) x (get_or order i 0))
      (first_at ranges (get_or order i 0)) (last_at ranges (get_or order i 0)) (get_or order i 0) bands bands_after
      → AreNewPairs Takes (IsPair Holds items) (met bands (first_at ranges (get_or order i 0))
      (last_at ranges (get_or order i 0) - first_at ranges (get_or order i 0))) (get_or order i 0) later between after
      → FoundTo Takes (near_in_band (map rect_of items) ranges start) (IsPair Holds items) ranges order (i + 1) bands_after (tests + later) before after
  found_more i tests later in_order bands bands_after before between after so_far reaches count visited turned =
      let n = get_or order i 0 in
      let n_in = in_items Holds symmetric rect_of items ranges start are order sorted i in_order in
      let reach = (waiting_at bands (first_at ranges n)).reach in
      let reach_is : reach ≡ reach_at ranges start n = reaches (first_at ranges n) in
      record {
        found = so_far.found ++ turned.more;
        swept =
            swept_more Takes (near_in_band (map rect_of items) ranges start) (λ x. test_at (near_along_x reach) (map rect_of items) x n)
            (IsPair Holds items) (first_at ranges) (last_at ranges) order
            (order_differs (map rect_of items) order sorted)
            (λ a within. are.upward (get_or order a 0) (in_items Holds symmetric rect_of items ranges start are order sorted a within))
            (near_between_bands Holds symmetric rect_of items ranges start are order sorted)
            (pairs_near Holds symmetric rect_of items ranges start are)
            (λ x y is_near. shared ranges x y (near_split (map rect_of items) ranges start x y is_near).0)
            i in_order
            (λ a earlier is_near.
            let x = get_or order a 0 in
            let split = near_split (map rect_of items) ranges start x n is_near in
            let x_in = in_items Holds symmetric rect_of items ranges start are order sorted a (omega (arith, earlier)) in
            let same = reach_if_shared Holds symmetric rect_of items ranges start are x n x_in n_in split.0 in
            let test : test_at (near_along_x (reach_at ranges start n)) (map rect_of items) x n ≡ true = rw same at split.1 in
            rw reach_is test)
            (begun_in bands) (passing_in bands) (begun_in bands_after) (passing_in bands_after)
            (met bands (first_at ranges n) (last_at ranges n - first_at ranges n))
            so_far.found later between after so_far.swept
            (visited_by (λ x. test_at (near_along_x reach) (map rect_of items) x n) (first_at ranges n) (last_at ranges n) n bands bands_after visited)
            (are_met bands (first_at ranges n) (last_at ranges n) (are.upward n n_in)) turned;
        taken = takes_append Takes before so_far.found between turned.more after so_far.taken turned.taken;
        enough = omega (arith, so_far.enough, turned.enough, length-append so_far.found turned.more);
      }

  -- after the last one
  pub found_all : (bands : List Waiting) (tests : ℕ) (before after : Sink)
      → FoundTo Takes (near_in_band (map rect_of items) ranges start) (IsPair Holds items) ranges order (length order) bands tests before after
      → TookPairs Takes Holds items tests before after
  found_all bands tests before after to =
      let swept = to.swept in
      let numbers = rw (length-map items rect_of) at sorted.numbers in
      record {
        found = to.found;
        are = record {
          each = swept.each;
          distinct = swept.distinct;
          all = λ p h.
              let p0 = place_of order p.0 (numbers_contain order (length items) p.0 numbers (slice_get_within items p.0 h.a h.a_at)) in
              let p1 = place_of order p.1 (numbers_contain order (length items) p.1 numbers (slice_get_within items p.1 h.b h.b_at)) in
              let low = h.in_order in
              elim (cases_lt p0.0 p1.0) [
                | inl onward ↦
                    let same : ordered (get_or order p0.0 0) (get_or order p1.0 0) ≡ p = rw (p0.2, p1.2) (ordered_below p.0 p.1 low) in
                    rw same at (swept.all p0.0 p1.0 onward p1.1 (rw same h))
                | inr back ↦
                    let same : ordered (get_or order p1.0 0) (get_or order p0.0 0) ≡ p = rw (p0.2, p1.2) (ordered_above p.1 p.0 (omega arith)) in
                    let apart : p1.0 < p0.0 = elim (cases_eq p1.0 p0.0) [
                      | inl even ↦ let e : p.1 ≡ p.0 = sym p1.2 ∙ ap (λ k. get_or order k 0) even ∙ p0.2 in absurd (omega arith)
                      | inr uneven ↦ omega (arith, uneven)
                    ] in
                    rw same at (swept.all p1.0 p0.0 apart p0.1 (rw same h))
              ];
        };
        taken = to.taken;
        enough = to.enough;
      }
