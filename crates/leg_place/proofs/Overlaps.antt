-- Overlaps by the pairs of boxes that share a unit square.
use Rattle.std.proofs.Common.{◌≡◌, ℕ, Bool, true, replicate, ◌<◌, ◌≤◌, List, ◌++◌, map, Option, Some, None, slice_get, length, Contains, refl, sym, ap, ◌∙◌, inl, inr, All, ◌+◌, ◌∷◌, [], get_or, take, arith}
use Rattle.std.proofs.lemmas.Bool.{cases_lt, cases_eq}
use Rattle.std.proofs.lemmas.List.{take_more, map-append, append_assoc}
use Rattle.std.proofs.lemmas.List.Elements.{All-nil, All-cons, All-head, All-tail, All-append, All-map, All-weaker, Contains-append_left, Contains-append_right}
use Rattle.std.proofs.lemmas.Option.{same_Some, slice_get_within, slice_get-get_or, get_or_from_slice_get}
use Rattle.leg_lemmas.proofs.Places.{all_at, place_of_contained}
use Rattle.leg_lemmas.proofs.Contents.{Contains-nil, Contains-map}
use Rattle.leg_lemmas.proofs.RisingLists.{AllPairs-append_by, AllPairs-map_where}
use Rattle.leg_geom.specs.Plane.{ShareSquare}
use Rattle.leg_sweep.specs.Pairs.{Before, ArePairs, TakesAll, TookPairs}
use Rattle.leg_geom.specs.Pairs.{IsPair}
use Rattle.leg_sweep.specs.Pairs.TakesAll.{none, more}
use Rattle.leg_design_records.specs.Records.{DesignModel}
use Rattle.leg_design_records.specs.declared.fault.Fault.{Fault}
use Rattle.leg_design_records.specs.declared.fault.Fault.TheVariants.{Overlap}
use Rattle.leg_design_records.specs.Violation.{ComesBefore, kind_number, numbers_of}
use Rattle.leg_place.specs.declared.placed_box.PlacedBox.{PlacedBox}
use Rattle.leg_rules.specs.Placement.Box.{HasBox}
use Rattle.leg_rules.specs.Placement.Violations.{DoOverlap}
use Rattle.leg_place.specs.Among.{IsMarked, IsViolationAmong}
use Rattle.leg_rules.specs.Placement.Violations.IsPlacementViolation.{overlap}
use Rattle.leg_place.specs.Steps.ListPrefix.{IsViolationBefore, IsListBefore, AreBoxesBelow, HasLowerNumber, DoSomeOverlap, HasPair}
use Rattle.leg_place.proofs.PlaceFaults.{overlap_there, marked_by_all}
use Rattle.leg_place.proofs.ComponentFaults.{overlap_kind, is_overlap}
use Rattle.leg_place.proofs.Places.{AllPairs-at, lower_first, same_place}

-- two boxes share a unit square
abbrev pub Share : PlacedBox → PlacedBox → Type 0
Share a b = ShareSquare a.rect b.rect

-- the component in the box at a place
abbrev number_of : Option PlacedBox → ℕ
number_of None = 0
number_of (Some box) = box.component

abbrev pub overlap_of : List PlacedBox → ℕ × ℕ → Fault
overlap_of boxes p = Overlap (number_of (slice_get boxes p.0)) (number_of (slice_get boxes p.1))

-- one more pair
pub overlaps_more : (boxes : List PlacedBox) (pairs : List (ℕ × ℕ)) (i : ℕ) (first second : PlacedBox) (before found : List Fault)
    → All (IsPair Share boxes) pairs → i < length pairs
    → first ≡ get_or boxes (get_or pairs i (0, 0)).0 first → second ≡ get_or boxes (get_or pairs i (0, 0)).1 second
    → found ≡ before ++ map (overlap_of boxes) (take i pairs)
    → found ++ Overlap first.component second.component ∷ [] ≡ before ++ map (overlap_of boxes) (take (i + 1) pairs)
overlaps_more boxes pairs i first second before found each within first_is second_is done =
    let pair = each i (0, 0) within in
    let a_is : first ≡ pair.a = first_is ∙ get_or_from_slice_get boxes _ pair.a first pair.a_at in
    let b_is : second ≡ pair.b = second_is ∙ get_or_from_slice_get boxes _ pair.b second pair.b_at in
    let next : overlap_of boxes (get_or pairs i (0, 0)) ≡ Overlap first.component second.component = rw (pair.a_at, pair.b_at, a_is, b_is) in
    rw (take_more pairs i (0, 0), map-append, next, ← append_assoc, done)

-- a sink that takes no pair has taken none
took_none : {Sink : Type 0} (found : List (ℕ × ℕ)) (before after : Sink) → TakesAll (λ s p t. ⊥) before found after → (p : ℕ × ℕ) → Contains found p → ⊥
took_none found before after (none) p has = Contains-nil p has
took_none found before after (more rest never) p has = absurd never

module _ (design : DesignModel) (marks : List Bool) (n : ℕ) (boxes : List PlacedBox) (are : AreBoxesBelow design marks n boxes) where
  -- the violation of a pair of boxes holds
  Holds-overlap_of : (p : ℕ × ℕ) → IsPair Share boxes p → IsViolationAmong design marks (overlap_of boxes p)
  Holds-overlap_of p pair =
      rw (pair.a_at, pair.b_at) (record {
        holds = overlap (record {
          in_order = AllPairs-at HasLowerNumber boxes p.0 p.1 pair.a pair.b are.increasing pair.a_at pair.b_at pair.in_order;
          box_a = pair.a.rect;
          box_b = pair.b.rect;
          stands_a = all_at (λ box. HasBox design box.component box.rect) boxes p.0 pair.a are.each pair.a_at;
          stands_b = all_at (λ box. HasBox design box.component box.rect) boxes p.1 pair.b are.each pair.b_at;
          shared = pair.holds;
        });
        marked =
            All-cons (IsMarked marks) pair.a.component (pair.b.component ∷ [])
            (all_at (λ box. IsMarked marks box.component) boxes p.0 pair.a are.marked pair.a_at)
            (All-cons (IsMarked marks) pair.b.component []
            (all_at (λ box. IsMarked marks box.component) boxes p.1 pair.b are.marked pair.b_at)
            (All-nil (IsMarked marks)));
      })

  -- pairs in order are overlaps in order
  ComesBefore-overlap_of : (p q : ℕ × ℕ) → IsPair Share boxes p → IsPair Share boxes q → Before p q → ComesBefore (overlap_of boxes p) (overlap_of boxes q)
  ComesBefore-overlap_of p q is_p is_q before =
      rw (is_p.a_at, is_p.b_at, is_q.a_at, is_q.b_at) (record {
        kind = omega arith;
        first = λ _. elim (cases_lt p.0 q.0) [
          | inl lower ↦ omega (arith, AllPairs-at HasLowerNumber boxes p.0 q.0 is_p.a is_q.a are.increasing is_p.a_at is_q.a_at lower)
          | inr other ↦
              let same : p.0 ≡ q.0 = omega (arith, before.first) in
              let alike : is_p.a ≡ is_q.a = same_Some is_p.a is_q.a (sym is_p.a_at ∙ ap (slice_get boxes) same ∙ is_q.a_at) in
              omega (arith, ap (λ (x : PlacedBox). x.component) alike)
        ];
        second = λ _ equal.
            let same : p.0 ≡ q.0 = same_place (λ box. box.component) boxes are.increasing p.0 q.0 is_p.a is_q.a is_p.a_at is_q.a_at equal in
            AllPairs-at HasLowerNumber boxes p.1 q.1 is_p.b is_q.b are.increasing is_p.b_at is_q.b_at (before.second same);
      })

  -- each overlap is that of a pair
  overlap_from_pair : (found : List (ℕ × ℕ)) → ArePairs Share boxes found → (a b : ℕ) → (holds : DoOverlap design a b) → a < n → b < n → IsMarked marks a
      → IsMarked marks b → Contains (map (overlap_of boxes) found) (Overlap a b)
  overlap_from_pair found pairs a b holds a_below b_below a_marked b_marked =
      let first = place_of_contained boxes (record { component = a; rect = holds.box_a }) (are.all a holds.box_a a_below a_marked holds.stands_a) in
      let second = place_of_contained boxes (record { component = b; rect = holds.box_b }) (are.all b holds.box_b b_below b_marked holds.stands_b) in
      let pair : IsPair Share boxes (first.k, second.k) = record {
        a = record { component = a; rect = holds.box_a };
        b = record { component = b; rect = holds.box_b };
        a_at = first.there;
        b_at = second.there;
        in_order = lower_first (λ box. box.component) boxes are.increasing first.k second.k _ _ first.there second.there holds.in_order;
        holds = holds.shared;
      } in
      let has = Contains-map (overlap_of boxes) found (first.k, second.k) (pairs.all (first.k, second.k) pair) in
      rw (first.there, second.there) at has

-- overlaps behind the violations of the kinds before
module _ (design : DesignModel) (marks : List Bool) (found : List Fault) (before : IsListBefore design marks overlap_kind 0 found) (boxes : List PlacedBox)
    (are : AreBoxesBelow design marks (length design.components) boxes) where
  pub listing_Overlap_end : (pairs : List (ℕ × ℕ)) → ArePairs Share boxes pairs
      → IsListBefore design marks (overlap_kind + 1) 0 (found ++ map (overlap_of boxes) pairs)
  listing_Overlap_end pairs are_pairs = record {
    increasing =
        AllPairs-append_by ComesBefore (IsViolationBefore design marks overlap_kind 0) (λ w. kind_number w ≡ overlap_kind) kinds_rise found
        (map (overlap_of boxes) pairs)
        before.each (All-map (λ w. kind_number w ≡ overlap_kind) (overlap_of boxes) pairs (λ k d within. refl)) before.increasing
        (AllPairs-map_where Before ComesBefore (overlap_of boxes) (IsPair Share boxes)
        (ComesBefore-overlap_of design marks (length design.components) boxes are) pairs are_pairs.each are_pairs.increasing);
    each =
        All-append after found (map (overlap_of boxes) pairs)
        (All-weaker (IsViolationBefore design marks overlap_kind 0) after (λ v held. upto v held.holds held.upto) found before.each)
        (All-map after (overlap_of boxes) pairs
        (All-weaker (IsPair Share boxes) (λ p. after (overlap_of boxes p))
        (λ p pair.
        upto (overlap_of boxes p) (Holds-overlap_of design marks (length design.components) boxes are p pair) (omega arith))
        pairs are_pairs.each));
    all = λ v held. elim (cases_eq (kind_number v) overlap_kind) [
      | inl same ↦
          let is = is_overlap v same in
          rw (← is) at (overlap_in (numbers_of v).0 (numbers_of v).1 (rw is at held.holds))
      | inr apart ↦
          Contains-append_left found (map (overlap_of boxes) pairs) v
          (before.all v (record { holds = held.holds; upto = below_next v held; below = λ same. absurd (apart same) }))
    ];
  }
    where
      after : Fault → Type 0
      after = IsViolationBefore design marks (overlap_kind + 1) 0

      upto : (v : Fault) → IsViolationAmong design marks v → kind_number v ≤ overlap_kind → IsViolationBefore design marks (overlap_kind + 1) 0 v
      upto v holds kind = record { holds = holds; upto = omega (arith, kind); below = λ same. absurd (omega (arith, kind, same)) }

      below_next : (v : Fault) → IsViolationBefore design marks (overlap_kind + 1) 0 v → kind_number v ≤ overlap_kind
      below_next v held = elim (cases_eq (kind_number v) (overlap_kind + 1)) [
        | inl same ↦ absurd (let first = held.below same in omega (arith, first))
        | inr apart ↦ omega (arith, held.upto, apart)
      ]

      kinds_rise : (v w : Fault) → IsViolationBefore design marks overlap_kind 0 v → kind_number w ≡ overlap_kind → ComesBefore v w
      kinds_rise v w held kind =
          let earlier : kind_number v ≡ overlap_kind → ⊥ = λ same. (let first = held.below same in omega (arith, first)) in
          record {
            kind = omega (arith, held.upto, kind);
            first = λ same. absurd (earlier (same ∙ kind));
            second = λ same. absurd (earlier (same ∙ kind));
          }

      overlap_in : (a b : ℕ) → IsViolationAmong design marks (Overlap a b) → Contains (found ++ map (overlap_of boxes) pairs) (Overlap a b)
      overlap_in a b held =
          let h = overlap_there design a b held.holds in
          Contains-append_right found (map (overlap_of boxes) pairs) (Overlap a b)
          (overlap_from_pair design marks (length design.components) boxes are pairs are_pairs a b h
          (slice_get_within design.components a h.stands_a.component h.stands_a.there)
          (slice_get_within design.components b h.stands_b.component h.stands_b.there)
          (All-head (IsMarked marks) a (b ∷ []) held.marked)
          (All-head (IsMarked marks) b [] (All-tail (IsMarked marks) a (b ∷ []) held.marked)))

-- two boxes at places in order that share a unit square
pub pair_at : (boxes : List PlacedBox) (a b : ℕ) (first second : PlacedBox) → a < b → b < length boxes
    → ShareSquare (get_or boxes a first).rect (get_or boxes b second).rect → HasPair boxes
pair_at boxes a b first second lower within shared =
    record {
      numbers = (a, b);
      pair = record {
        a = get_or boxes a first;
        b = get_or boxes b second;
        a_at = slice_get-get_or boxes a first (omega (arith, lower, within));
        b_at = slice_get-get_or boxes b second within;
        in_order = lower;
        holds = shared;
      };
    }

-- overlaps of components that are all marked
module _ (design : DesignModel) (boxes : List PlacedBox)
    (are : AreBoxesBelow design (replicate (length design.components) true) (length design.components) boxes) where
  -- of a pair
  pub overlap_of_pair : HasPair boxes → DoSomeOverlap design
  overlap_of_pair has =
      let held = Holds-overlap_of design (replicate (length design.components) true) (length design.components) boxes are has.numbers has.pair in
      record {
        a = number_of (slice_get boxes has.numbers.0);
        b = number_of (slice_get boxes has.numbers.1);
        overlap = overlap_there design _ _ held.holds;
      }

  -- a sink that takes no pair has taken all just where there are none
  pub overlap_from_took : {Sink : Type 0} {tests : ℕ} (before after : Sink) → TookPairs (λ s p t. ⊥) Share boxes tests before after → DoSomeOverlap design → ⊥
  overlap_from_took before after took some =
      let h = some.overlap in
      let a_below = slice_get_within design.components some.a h.stands_a.component h.stands_a.there in
      let b_below = slice_get_within design.components some.b h.stands_b.component h.stands_b.there in
      let first =
      place_of_contained boxes (record { component = some.a; rect = h.box_a })
      (are.all some.a h.box_a a_below (marked_by_all design some.a a_below) h.stands_a) in
      let second =
      place_of_contained boxes (record { component = some.b; rect = h.box_b })
      (are.all some.b h.box_b b_below (marked_by_all design some.b b_below) h.stands_b) in
      let pair : IsPair Share boxes (first.k, second.k) = record {
        a = record { component = some.a; rect = h.box_a };
        b = record { component = some.b; rect = h.box_b };
        a_at = first.there;
        b_at = second.there;
        in_order = lower_first (λ box. box.component) boxes are.increasing first.k second.k _ _ first.there second.there h.in_order;
        holds = h.shared;
      } in
      took_none took.found before after took.taken (first.k, second.k) (took.are.all (first.k, second.k) pair)
