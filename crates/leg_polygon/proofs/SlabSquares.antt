-- The slabs of a polygon have exactly the unit squares inside it.
use Rattle.std.proofs.Common.{◌≡◌, ℤ, ◌≤ℤ◌, ◌<ℤ◌, Bool, true, false, List, [], ◌∷◌, Contains, map, inl, inr, refl, sym, ◌∙◌, arith}
use Rattle.std.specs.Prelude.{int_lt, int_le, ◌⊎◌}
use Rattle.std.proofs.lemmas.Bool.{cases_Bool, and_parts, false≢true}
use Rattle.std.proofs.lemmas.Int.{ints}
use Rattle.leg_lemmas.proofs.Contents.{Contains-here, Contains-there, Contains-map, All-from_contains}
use Rattle.leg_lemmas.proofs.Integers.{lt_from_test, least_from_test}
use Rattle.leg_geom.specs.Plane.{PointModel, RectModel}
use Rattle.leg_polygon.specs.Walk.{corners, walk}
use Rattle.leg_polygon.specs.Inside.{is_odd, differ, is_above, crosses, is_west, is_inside}
use Rattle.leg_polygon.specs.Slab.{heights, bands, edges, runs, slabs, IsSlab, IsCovered, AreSlabs}
use Rattle.leg_polygon.proofs.Parity.{is_odd-nil, is_odd-cons, is_odd-agree}
use Rattle.leg_polygon.proofs.RisingNumbers.{Rise}
use Rattle.leg_polygon.proofs.NumberFolds.{ordered_rises, ordered_from, ordered_keeps}
use Rattle.leg_polygon.proofs.ClosedWalk.{side_ends}
use Rattle.leg_polygon.proofs.WalkEdges.{edges_rise, edges_upto, edges_even}
use Rattle.leg_polygon.proofs.RunSquares.{IsRun, run_is, place_has, place_odd}
use Rattle.leg_polygon.proofs.Bands.{band_is, row_has, Contains-flat_map, from_flat_map, bands_order}

-- where an odd number pass, one does
pub record Passes {X : Type 0} (test : X → Bool) (xs : List X) : Type 0 where
  pub one : X
  pub given : Contains xs one
  pub passes : test one ≡ true

odd_passes : {X : Type 0} (test : X → Bool) (xs : List X) → is_odd test xs ≡ true → Passes test xs
odd_passes test [] odd = absurd (false≢true (sym (is_odd-nil test) ∙ odd))
odd_passes test (x ∷ xs) odd = elim (cases_Bool (test x)) [
  | inl passes ↦ record { one = x; given = Contains-here x xs; passes = passes }
  | inr fails ↦
      let rest = odd_passes test xs (rw (is_odd-cons test x xs, fails) at odd) in
      record { one = rest.one; given = Contains-there x xs rest.one rest.given; passes = rest.passes }
]

-- a line within a band has the same heights above it as the band's lower line
above_same : (low high y v : ℤ) → low ≤ℤ y → y <ℤ high → (v ≤ℤ low) ⊎ (high ≤ℤ v) → int_lt y v ≡ int_lt low v
above_same low high y v from upto (inl under) = under_both low y v from under where
  under_both : (low y v : ℤ) → low ≤ℤ y → v ≤ℤ low → int_lt y v ≡ int_lt low v
  under_both low y v from under = grind (arith, ints)
above_same low high y v from upto (inr over) = over_both low high y v from upto over where
  over_both : (low high y v : ℤ) → low ≤ℤ y → y <ℤ high → high ≤ℤ v → int_lt y v ≡ int_lt low v
  over_both low high y v from upto over = grind (arith, ints)

-- one point above a line and one that isn't
record HasBoth (points : List PointModel) (line : ℤ) : Type 0 where
  lower : PointModel
  upper : PointModel
  lower_in : Contains points lower
  upper_in : Contains points upper
  under : lower.y ≤ℤ line
  over : line <ℤ upper.y

both_ends : (points : List PointModel) (line : ℤ) (p q : PointModel) → Contains points p → Contains points q
    → differ (is_above line p) (is_above line q) ≡ true → HasBoth points line
both_ends points line p q p_in q_in differs = by (is_above line p) (is_above line q) refl refl differs where
  by : (a b : Bool) → is_above line p ≡ a → is_above line q ≡ b → differ a b ≡ true → HasBoth points line
  by true true above_p above_q apart = absurd (false≢true apart)
  by true false above_p above_q apart =
      record { lower = q; upper = p; lower_in = q_in; upper_in = p_in; under = least_from_test line q.y above_q; over = lt_from_test line p.y above_p }
  by false true above_p above_q apart =
      record { lower = p; upper = q; lower_in = p_in; upper_in = q_in; under = least_from_test line p.y above_p; over = lt_from_test line q.y above_q }
  by false false above_p above_q apart = absurd (false≢true apart)

-- numbers that are others
below_along : (a b c d : ℤ) → a ≡ b → c ≡ d → b <ℤ d → a <ℤ c
below_along a b c d first second less = omega (arith, ints)

has_along : (zs : List ℤ) (a b : ℤ) → a ≡ b → Contains zs b → Contains zs a
has_along zs a b same there = rw same there

module _ (points : List PointModel) where
  heights_rise : Rise (heights (corners points))
  heights_rise = ordered_rises (map (λ (p : PointModel). p.y) (corners points))

  height_in : (p : PointModel) → Contains (corners points) p → Contains (heights (corners points)) p.y
  height_in p c = ordered_keeps (map (λ (q : PointModel). q.y) (corners points)) p.y (Contains-map (λ (q : PointModel). q.y) (corners points) p c)

  -- a unit square of a band is inside just if the one in the band's lowest row is
  same_row : (band : ℤ × ℤ) (square : PointModel) → Contains (bands (heights (corners points))) band → band.0 ≤ℤ square.y → square.y <ℤ band.1
      → is_inside (walk points) square ≡ is_inside (walk points) (record { x = square.x; y = band.0 })
  same_row band square given from upto =
      let low : PointModel = record { x = square.x; y = band.0 } in
      is_odd-agree (is_west square) (is_west low) (walk points) (All-from_contains (λ side. is_west square side ≡ is_west low side) (walk points) agree)
    where
      whole : (y : ℤ) → Contains (heights (corners points)) y → (y ≤ℤ band.0) ⊎ (band.1 ≤ℤ y)
      whole = (band_is (heights (corners points)) band heights_rise given).whole

      agree : (side : PointModel × PointModel) → Contains (walk points) side → is_west square side ≡ is_west (record { x = square.x; y = band.0 }) side
      agree side c =
          let ends = side_ends (corners points) side c in
          let first : int_lt square.y side.0.y ≡ int_lt band.0 side.0.y =
          above_same band.0 band.1 square.y side.0.y from upto (whole side.0.y (height_in side.0 ends.0)) in
          let second : int_lt square.y side.1.y ≡ int_lt band.0 side.1.y =
          above_same band.0 band.1 square.y side.1.y from upto (whole side.1.y (height_in side.1 ends.1)) in
          rw (first, second) refl

  covered : (square : PointModel) → is_inside (walk points) square ≡ true → IsCovered (slabs points) square
  covered square inside =
      let west = odd_passes (is_west square) (walk points) inside in
      let through = (and_parts (crosses square.y west.one) (int_le west.one.0.x square.x) west.passes).0 in
      let ends = side_ends (corners points) west.one west.given in
      let both = both_ends (corners points) square.y west.one.0 west.one.1 ends.0 ends.1 through in
      let row =
      row_has (heights (corners points)) square.y both.lower.y both.upper.y heights_rise (height_in both.lower both.lower_in) both.under
      (height_in both.upper both.upper_in) both.over in
      let in_row = edges (walk points) row.band.0 in
      let rise : Rise in_row = edges_rise (walk points) row.band.0 in
      let odd : is_odd (λ e. int_le e square.x) in_row ≡ true =
      edges_upto (walk points) row.band.0 square.x ∙ sym (same_row row.band square row.given row.low row.high) ∙ inside in
      let place = place_has row.band in_row square.x rise (edges_even (corners points) row.band.0) odd in
      let run = run_is row.band in_row place.rect rise place.given in
      record {
        rect = place.rect;
        given = Contains-flat_map (λ band. runs band (edges (walk points) band.0)) (bands (heights (corners points))) row.band place.rect row.given place.given;
        has = record { left = place.west; right = place.east; bottom = rw run.low row.low; top = rw run.high row.high };
      }

  -- the band of a slab, and that it is one between edges in it
  record ComesFrom (r : RectModel) : Type 0 where
    band : ℤ × ℤ
    given : Contains (bands (heights (corners points))) band
    among : Contains (runs band (edges (walk points) band.0)) r
    run : IsRun band (edges (walk points) band.0) r

  comes_from : (r : RectModel) → Contains (slabs points) r → ComesFrom r
  comes_from r c =
      let from = from_flat_map (λ band. runs band (edges (walk points) band.0)) (bands (heights (corners points))) r c in
      record { band = from.0; given = from.1; among = from.2; run = run_is from.0 (edges (walk points) from.0.0) r (edges_rise (walk points) from.0.0) from.2 }

  inside_of : (square : PointModel) → IsCovered (slabs points) square → is_inside (walk points) square ≡ true
  inside_of square c =
      let from = comes_from c.rect c.given in
      let in_row = edges (walk points) from.band.0 in
      let odd : is_odd (λ e. int_le e square.x) in_row ≡ true =
      place_odd from.band in_row square.x c.rect (edges_rise (walk points) from.band.0) from.among c.has.left c.has.right in
      let low : from.band.0 ≤ℤ square.y = rw from.run.low at c.has.bottom in
      let high : square.y <ℤ from.band.1 = rw from.run.high at c.has.top in
      same_row from.band square from.given low high ∙ sym (edges_upto (walk points) from.band.0 square.x) ∙ odd

  is_slab : (r : RectModel) → Contains (slabs points) r → IsSlab (corners points) r
  is_slab r c =
      let from = comes_from r c in
      let band = band_is (heights (corners points)) from.band heights_rise from.given in
      let ys = map (λ (p : PointModel). p.y) (corners points) in
      record {
        wide = from.run.wide;
        high = below_along r.y1 from.band.0 r.y2 from.band.1 from.run.low from.run.high band.high;
        bottom = has_along ys r.y1 from.band.0 from.run.low (ordered_from ys from.band.0 band.bottom);
        top = has_along ys r.y2 from.band.1 from.run.high (ordered_from ys from.band.1 band.top);
        whole = λ y there. elim (band.whole y (ordered_keeps ys y there)) [
          | inl under ↦ inl (let low = from.run.low in omega (arith, ints))
          | inr over ↦ inr (let high = from.run.high in omega (arith, ints))
        ];
      }

  pub AreSlabs-slabs : AreSlabs points (slabs points)
  AreSlabs-slabs = record {
    squares = λ square. (covered square, inside_of square);
    each = All-from_contains (IsSlab (corners points)) (slabs points) is_slab;
    order =
        bands_order (λ band. edges (walk points) band.0) (λ band. edges_rise (walk points) band.0) (heights (corners points)) heights_rise;
  }
