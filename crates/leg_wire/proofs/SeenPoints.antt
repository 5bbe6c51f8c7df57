-- The table of the points that were seen first.
use Rattle.std.proofs.Common.{◌≡◌, ℕ, ℤ, Bool, true, false, not, cond, ◌&&◌, None, Some, ◌⊎◌, inl, inr, refl, sym, ap, ◌∙◌, int_eq, rules, arith}
use Rattle.std.specs.HashMap.{HashMap, get_by}
use Rattle.std.proofs.lemmas.Bool.{false≢true}
use Rattle.std.proofs.lemmas.Bool.Decides.{nat_tests}
use Rattle.std.proofs.lemmas.Int.{ints}
use Rattle.std.proofs.lemmas.Option.{same_Some, none-some}
use Rattle.leg_lemmas.proofs.Lookups.{lookup_agrees}
use Rattle.leg_geom.specs.Plane.{PointModel}
use Rattle.leg_wire.specs.contracts.corner.BesidePartialEq.TheImpl.{eq-value}
use Rattle.leg_wire.specs.declared.corner.Beside.{Beside}
use Rattle.leg_wire.specs.declared.piece_shape.PieceShape.{PieceShape}
use Rattle.leg_wire.specs.Steps.SharedPoints.{are_same_pieces, first_seen, pieces_beside, spot_of, IsOnlyShared, IsPointSeen}

-- what the comparison of two keys answers
beside_eq_is : (a b : Beside) → eq-value.it a b ≡ are_same_pieces a b
beside_eq_is a b = search rules

-- keys that are compared as equal are equal
same_pieces : (a b : Beside) → are_same_pieces a b ≡ true → a ≡ b
same_pieces a b test =
    let low : a.low ≡ b.low = grind (arith, nat_tests) in
    let high : a.high ≡ b.high = grind (arith, nat_tests) in
    let layer : a.layer ≡ b.layer = grind (arith, nat_tests) in
    ap (λ (n : ℕ). key n a.high a.layer) low
    ∙ ap (λ (n : ℕ). key b.low n a.layer) high
    ∙ ap (λ (n : ℕ). key b.low b.high n) layer
  where
    key : ℕ → ℕ → ℕ → Beside
    key low high layer = record { low = low; high = high; layer = layer }

-- and a key as equal to itself
are_same_pieces-refl : (a : Beside) → are_same_pieces a a ≡ true
are_same_pieces-refl a = grind (arith, nat_tests)

-- what is found by the comparison of keys
first_seen_is : {S : Type 0} (m : HashMap Beside (ℤ × ℤ) S) (pieces : Beside) → first_seen m.entries pieces ≡ get_by (eq-value.it pieces) m
first_seen_is m pieces = lookup_agrees (are_same_pieces pieces) (eq-value.it pieces) (λ k. sym (beside_eq_is pieces k)) m.entries

-- what the comparison of two points answers
same_point : (p q : ℤ × ℤ) → (int_eq p.0 q.0 && int_eq p.1 q.1) ≡ true → p ≡ q
same_point (a, b) (c, d) test =
    let x : a ≡ c = grind (arith, ints) in
    let y : b ≡ d = grind (arith, ints) in
    rw (x, y) refl

other_point : (p q : ℤ × ℤ) → (int_eq p.0 q.0 && int_eq p.1 q.1) ≡ false → spot_of p ≡ spot_of q → ⊥
other_point p q test same =
    let x : p.0 ≡ q.0 = ap (λ (s : PointModel). s.x) same in
    let y : p.1 ≡ q.1 = ap (λ (s : PointModel). s.y) same in
    let told : (int_eq p.0 q.0 && int_eq p.1 q.1) ≡ true = grind (arith, ints) in
    false≢true (sym test ∙ told)

module _ {S : Type 0} (before : HashMap Beside (ℤ × ℤ) S) (a b : PieceShape) (key : Beside) (key_is : key ≡ pieces_beside a b)
    (corner : ℤ × ℤ) (only : IsOnlyShared a.rect b.rect (spot_of corner)) where
  -- a point of these pieces was seen before
  pub seen_before : (first : ℤ × ℤ) (other : Bool) → get_by (eq-value.it key) before ≡ Some first
      → other ≡ not (int_eq first.0 corner.0 && int_eq first.1 corner.1)
      → IsPointSeen before.entries before.entries a b other
  seen_before first other found is = record {
    first = first;
    there = first_seen_is before (pieces_beside a b) ∙ rw key_is at found;
    kept = λ pieces point at. at;
    new = λ pieces point at. inl at;
    same = λ none.
        let test : (int_eq first.0 corner.0 && int_eq first.1 corner.1) ≡ true = grind (arith, none, is) in
        rw (same_point first corner test) only;
    differs = λ told shared.
        let test : (int_eq first.0 corner.0 && int_eq first.1 corner.1) ≡ false = grind (arith, told, is) in
        other_point first corner test (only.only (spot_of first) shared);
  }

  -- none was seen, and this is the first one
  pub seen_first : (after : HashMap Beside (ℤ × ℤ) S) → get_by (eq-value.it key) before ≡ None
      → ((q : Beside) → get_by (eq-value.it q) after ≡ cond (eq-value.it key q) (Some corner) (get_by (eq-value.it q) before))
      → IsPointSeen before.entries after.entries a b false
  seen_first after none updates = record {
    first = corner;
    there = here;
    kept = λ pieces point at. elim (cases_of pieces) [
      | inl same ↦ let seen : first_seen before.entries (pieces_beside a b) ≡ Some point = rw same at at in absurd (none-some point (sym none_here ∙ seen))
      | inr kept ↦ kept ∙ at
    ];
    new = λ pieces point at. elim (cases_of pieces) [
      | inl same ↦
          let is : point ≡ corner = same_Some point corner (sym at ∙ rw same here) in
          inr (same, rw is only.shared)
      | inr kept ↦ inl (sym kept ∙ at)
    ];
    same = λ told. only;
    differs = λ told. absurd (false≢true told);
  }
    where
      none_here : first_seen before.entries (pieces_beside a b) ≡ None
      none_here = let is : get_by (eq-value.it (pieces_beside a b)) before ≡ None = rw key_is at none in first_seen_is before (pieces_beside a b) ∙ is

      updated : (q : Beside) → first_seen after.entries q ≡ cond (are_same_pieces (pieces_beside a b) q) (Some corner) (first_seen before.entries q)
      updated q = first_seen_is after q ∙ rw key_is at (updates q) ∙ rw (beside_eq_is (pieces_beside a b) q, first_seen_is before q) refl

      here : first_seen after.entries (pieces_beside a b) ≡ Some corner
      here = rw (are_same_pieces-refl (pieces_beside a b)) at (updated (pieces_beside a b))

      by_test : (q : Beside) (test : Bool) → are_same_pieces (pieces_beside a b) q ≡ test
          → (q ≡ pieces_beside a b) ⊎ (first_seen after.entries q ≡ first_seen before.entries q)
      by_test q true same = inl (sym (same_pieces (pieces_beside a b) q same))
      by_test q false apart = inr (rw apart at (updated q))

      cases_of : (q : Beside) → (q ≡ pieces_beside a b) ⊎ (first_seen after.entries q ≡ first_seen before.entries q)
      cases_of q = by_test q (are_same_pieces (pieces_beside a b) q) refl
