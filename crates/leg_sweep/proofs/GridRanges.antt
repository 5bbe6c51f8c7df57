-- Two items for which the rule holds stand in a common band, and those on different layers don't.
use Rattle.std.proofs.Common.{◌≡◌, ℕ, ◌+◌, ◌-◌, ◌*◌, ◌^◌, ◌<◌, ◌≤◌, min, true, leb, List, length, map, Some, slice_get, Contains, inl, inr, ap, sym, ◌∙◌, arith}
use Rattle.std.proofs.lemmas.Bool.{cases_order, and_parts, leb-true}
use Rattle.std.proofs.lemmas.List.{length-map}
use Rattle.std.proofs.lemmas.Option.{same_Some, slice_get_within}
use Rattle.leg_lemmas.proofs.Places.{contains_at, get_or_mapped}
use Rattle.leg_geom.specs.declared.limits.TheConstants.{COORDINATE_LIMIT}
use Rattle.leg_geom.specs.Plane.{RectModel, IsRect}
use Rattle.leg_geom.specs.Gap.{x_gap, y_gap}
use Rattle.leg_sweep.specs.declared.band.BandRange.{BandRange}
use Rattle.leg_sweep.specs.declared.grid.LayerSpan.{LayerSpan}
use Rattle.leg_sweep.specs.declared.grid.LayerBands.{LayerBands}
use Rattle.leg_geom.specs.Pairs.{IsPair}
use Rattle.leg_sweep.specs.Steps.Bands.{Waiting, waiting_at, range_at, share_band, reach_at, AreBandRanges, AreByLayer}
use Rattle.leg_sweep.specs.Steps.Offsets.{offset_of}
use Rattle.leg_sweep.specs.Steps.Grid.{bands_at, AreSpans, IsGrid, BeginsIn, range_in, AreBandsBelow}
use Rattle.leg_sweep.proofs.Nearness.{y_gap_symmetric}
use Rattle.leg_sweep.proofs.GridHeights.{quotient_rises, height_within}
use Rattle.leg_sweep.proofs.GridBands.{bands_rise}
use Rattle.leg_sweep.proofs.GridPlaces.{IsPlaced, layer_within, proper_of, begins_at, range_is, many_ranges, placed}

-- a rectangle begins in no higher band than another one within the reach ends
ranges_meet : (bands : LayerBands) (a b : RectModel) (reach : ℕ) → IsRect a → IsRect b → BeginsIn bands b → bands.reach ≡ min reach (2 * COORDINATE_LIMIT)
    → y_gap a b ≤ reach
    → (range_in bands b).first ≤ (range_in bands a).last
ranges_meet bands a b reach is_a is_b begins within near =
    let far = height_within a.y1 a.y2 b.y1 b.y2 reach is_a.y2 is_b.y1 is_b.high near in
    let up = quotient_rises bands.height (offset_of b.y1 - bands.low) (offset_of a.y2 + bands.reach - bands.low) begins.tall (omega (arith, far, within)) in
    let below = begins.below in
    omega (arith, up, below)

module _ {Item : Type 0} (rect_of : Item → RectModel) (layer_of : Item → ℕ) (reach_of : ℕ → ℕ) (layers : ℕ) (items : List Item) (spans : List LayerSpan)
    (grid : List LayerBands)
    (are_spans : AreSpans rect_of layer_of layers items spans) (is_grid : IsGrid reach_of layers spans grid) (few : length items < 2 ^ 32)
    (ranges : List BandRange) (are_ranges : ranges ≡ map (λ a. range_in (bands_at grid (layer_of a)) (rect_of a)) items)
    (bands : List Waiting) (are_bands : AreBandsBelow reach_of grid layers bands) where
  item_layer : (a : Item) → Contains items a → layer_of a < layers
  item_layer = layer_within rect_of layer_of reach_of layers items spans grid are_spans is_grid few

  item_proper : (a : Item) → Contains items a → IsRect (rect_of a)
  item_proper = proper_of rect_of layer_of reach_of layers items spans grid are_spans is_grid few

  item_begins : (a : Item) → Contains items a → BeginsIn (bands_at grid (layer_of a)) (rect_of a)
  item_begins = begins_at rect_of layer_of reach_of layers items spans grid are_spans is_grid few

  item_range : (x : ℕ) (a : Item) → slice_get items x ≡ Some a → range_at ranges x ≡ range_in (bands_at grid (layer_of a)) (rect_of a)
  item_range = range_is rect_of layer_of reach_of layers items spans grid are_spans is_grid few ranges are_ranges

  range_placed : (x : ℕ) → x < length items → IsPlaced layer_of items grid x (range_at ranges x)
  range_placed = placed rect_of layer_of reach_of layers items spans grid are_spans is_grid few ranges are_ranges

  -- the bands of an item have its layer's reach
  band_reach : (x k : ℕ) (p : IsPlaced layer_of items grid x (range_at ranges x)) → (range_at ranges x).first ≤ k
      → k ≤ (range_at ranges x).last → (waiting_at bands k).reach ≡ reach_of (layer_of p.item)
  band_reach x k p low high =
      let layer : ℕ = layer_of p.item in
      let within : layer < layers = omega (arith, is_grid.many, p.within) in
      let number = (is_grid.each layer within).first in
      ap (λ (band : Waiting). band.reach) (are_bands.each layer k within (omega (arith, number, p.among.low, low)) (omega (arith, number, p.among.high, high)))

  own_reach : (x : ℕ) (p : IsPlaced layer_of items grid x (range_at ranges x)) → reach_at ranges bands x ≡ reach_of (layer_of p.item)
  own_reach x p = band_reach x (range_at ranges x).first p (omega arith) (omega (arith, p.among.up))

  -- an item on a lower layer than another one stands in lower bands
  layers_apart : (x y : ℕ) (p : IsPlaced layer_of items grid x (range_at ranges x)) (q : IsPlaced layer_of items grid y (range_at ranges y))
      → layer_of p.item < layer_of q.item
      → (range_at ranges x).last < (range_at ranges y).first
  layers_apart x y p q lower =
      let low : ℕ = layer_of p.item in
      let high : ℕ = layer_of q.item in
      let first_low = (is_grid.each low (omega (arith, is_grid.many, p.within))).first in
      let first_high = (is_grid.each high (omega (arith, is_grid.many, q.within))).first in
      let rise = bands_rise grid low high lower (omega (arith, q.within)) in
      omega (arith, first_low, first_high, rise, p.among.high, q.among.low)

  same_layer : (x y : ℕ) (p : IsPlaced layer_of items grid x (range_at ranges x)) (q : IsPlaced layer_of items grid y (range_at ranges y))
      → share_band ranges x y ≡ true → layer_of p.item ≡ layer_of q.item
  same_layer x y p q share =
      let both =
      and_parts (leb (range_at ranges x).first (range_at ranges y).last) (leb (range_at ranges y).first (range_at ranges x).last) share in
      let x_first = leb-true (range_at ranges x).first (range_at ranges y).last both.0 in
      let y_first = leb-true (range_at ranges y).first (range_at ranges x).last both.1 in
      elim (cases_order (layer_of p.item) (layer_of q.item)) [
        | inl same ↦ same
        | inr differ ↦ elim differ [
          | inl lower ↦ absurd (omega (arith, layers_apart x y p q lower, y_first))
          | inr higher ↦ absurd (omega (arith, layers_apart y x q p higher, x_first))
        ]
      ]

  -- the items of a common band lie on one layer
  pub bands_by_layer : AreByLayer (map layer_of items) reach_of ranges bands
  bands_by_layer = record {
    apart = λ x y x_in y_in share.
        let p = range_placed x (omega (arith, length-map items layer_of, x_in)) in
        let q = range_placed y (omega (arith, length-map items layer_of, y_in)) in
        get_or_mapped layer_of items x p.item 0 p.got ∙ same_layer x y p q share ∙ sym (get_or_mapped layer_of items y q.item 0 q.got);
    reach = λ x x_in.
        let p = range_placed x (omega (arith, length-map items layer_of, x_in)) in
        own_reach x p ∙ ap reach_of (sym (get_or_mapped layer_of items x p.item 0 p.got));
  }

  module _ (Holds : Item → Item → Type 0) (layered : (a b : Item) → Holds a b → layer_of a ≡ layer_of b)
      (near : (a b : Item) → Holds a b → (x_gap (rect_of a) (rect_of b) ≤ reach_of (layer_of a))
      × (y_gap (rect_of a) (rect_of b) ≤ reach_of (layer_of a))) where
    -- the two items of a pair stand in a common band
    pair_meets : (p : ℕ × ℕ) → IsPair Holds items p
        → ((range_at ranges p.0).first ≤ (range_at ranges p.1).last) × ((range_at ranges p.1).first ≤ (range_at ranges p.0).last)
    pair_meets p pair =
        let a : Item = pair.a in
        let b : Item = pair.b in
        let a_has = contains_at items p.0 a pair.a_at in
        let b_has = contains_at items p.1 b pair.b_at in
        let a_is : IsRect (rect_of a) = item_proper a a_has in
        let b_is : IsRect (rect_of b) = item_proper b b_has in
        let same : layer_of a ≡ layer_of b = layered a b pair.holds in
        let own : LayerBands = bands_at grid (layer_of a) in
        let a_begins : BeginsIn own (rect_of a) = item_begins a a_has in
        let b_begins : BeginsIn own (rect_of b) = rw same (item_begins b b_has) in
        let within = (is_grid.each (layer_of a) (item_layer a a_has)).within in
        let gap : y_gap (rect_of a) (rect_of b) ≤ reach_of (layer_of a) = (near a b pair.holds).1 in
        let gap_back : y_gap (rect_of b) (rect_of a) ≤ reach_of (layer_of a) = omega (arith, gap, y_gap_symmetric (rect_of a) (rect_of b) a_is b_is) in
        rw (item_range p.0 a pair.a_at, item_range p.1 b pair.b_at, ← same) (
          ranges_meet own (rect_of b) (rect_of a) (reach_of (layer_of a)) b_is a_is a_begins within gap_back,
          ranges_meet own (rect_of a) (rect_of b) (reach_of (layer_of a)) a_is b_is b_begins within gap,
        )

    -- the bands of an item have its layer's reach
    reach_is : (x : ℕ) (a : Item) → slice_get items x ≡ Some a → reach_at ranges bands x ≡ reach_of (layer_of a)
    reach_is x a got =
        let p = range_placed x (slice_get_within items x a got) in
        let same : p.item ≡ a = same_Some p.item a (sym p.got ∙ got) in
        own_reach x p ∙ ap (λ b. reach_of (layer_of b)) same

    pub bands_are_ranges : AreBandRanges Holds rect_of items ranges bands
    bands_are_ranges = record {
      count = many_ranges rect_of layer_of reach_of layers items spans grid are_spans is_grid few ranges are_ranges;
      upward = λ x within. (range_placed x within).among.up;
      there = λ x within.
          let p = range_placed x within in
          let layer : ℕ = layer_of p.item in
          let in_layers : layer < layers = omega (arith, is_grid.many, p.within) in
          let rise = bands_rise grid layer layers in_layers (omega (arith, is_grid.many)) in
          omega (arith, p.among.high, (is_grid.each layer in_layers).first, rise, are_bands.many);
      one_reach = λ x k within low high.
          let p = range_placed x within in
          band_reach x k p low high ∙ sym (own_reach x p);
      meet = pair_meets;
      in_reach = λ x y a b a_got b_got holds. rw (reach_is x a a_got) (near a b holds);
    }
