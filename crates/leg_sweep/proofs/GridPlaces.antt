-- Where an item stands in the bands of its layer, and how many bands all items stand in.
use Rattle.std.proofs.Common.{◌≡◌, ℕ, ◌+◌, ◌-◌, ◌*◌, ◌/◌, ◌^◌, ◌<◌, ◌≤◌, min, true, cond, eqb, List, length, map, count_by, sum_by, Some, slice_get, All, Contains, inl, inr, refl, ap, ◌∙◌, arith}
use Rattle.std.specs.List.{range_with_len}
use Rattle.std.specs.Option.{option_map}
use Rattle.std.proofs.lemmas.Bool.{eq-eqb}
use Rattle.std.proofs.lemmas.List.{length-map}
use Rattle.std.proofs.lemmas.List.Elements.{All-contains}
use Rattle.std.proofs.lemmas.List.Sums.{get_or-le-sum_by, sum_by-take-le}
use Rattle.std.proofs.lemmas.Option.{slice_get-map, slice_get_cases, get_or_from_slice_get}
use Rattle.leg_lemmas.proofs.Places.{contains_at}
use Rattle.leg_lemmas.proofs.Contents.{All-from_contains}
use Rattle.leg_geom.specs.Plane.{RectModel, IsRect}
use Rattle.leg_sweep.specs.declared.band.BandRange.{BandRange}
use Rattle.leg_sweep.specs.declared.grid.LayerSpan.{LayerSpan}
use Rattle.leg_sweep.specs.declared.grid.LayerBands.{LayerBands}
use Rattle.leg_sweep.specs.Steps.Bands.{range_at, entries_at}
use Rattle.leg_sweep.specs.Steps.Offsets.{offset_of}
use Rattle.leg_sweep.specs.Steps.Grid.{rect_height, span_at, bands_at, AreSpans, IsGrid, BeginsIn, range_in}
use Rattle.leg_sweep.proofs.GridHeights.{quotient_rises, height_rises, bands_taken}
use Rattle.leg_sweep.proofs.GridSums.{on_layer, sum_by-map, sum_by_places, sum_thrice, layer_thrice}
use Rattle.leg_sweep.proofs.GridBands.{bands_within}

-- a range is among the bands
pub record IsAmong (bands : LayerBands) (range : BandRange) : Type 0 where
  pub low : bands.first ≤ range.first
  pub up : range.first ≤ range.last
  pub high : range.last < bands.first + bands.count

range_among : (bands : LayerBands) (rect : RectModel) → IsRect rect → BeginsIn bands rect → IsAmong bands (range_in bands rect)
range_among bands rect is begins =
    let rise = height_rises rect.y1 rect.y2 is.y1 is.y2 is.high in
    let below = begins.below in
    let up = quotient_rises bands.height (offset_of rect.y1 - bands.low) (offset_of rect.y2 + bands.reach - bands.low) begins.tall (omega (arith, rise)) in
    record { low = omega arith; up = omega (arith, up, below); high = omega (arith, below) }

-- in how many bands it stands
abbrev entries_of : BandRange → ℕ
entries_of range = range.last + 1 - range.first

-- what it takes of the bands' height
range_taken : (bands : LayerBands) (rect : RectModel) → IsRect rect → BeginsIn bands rect
    → bands.height * entries_of (range_in bands rect) ≤ 2 * bands.height + (rect_height rect + bands.reach)
range_taken bands rect is begins =
    let bottom : ℕ = offset_of rect.y1 in
    let top : ℕ = offset_of rect.y2 in
    let rise = height_rises rect.y1 rect.y2 is.y1 is.y2 is.high in
    let first : ℕ = (bottom - bands.low) / bands.height in
    let last : ℕ = min ((top + bands.reach - bands.low) / bands.height) (bands.count - 1) in
    let below = begins.below in
    let up = quotient_rises bands.height (bottom - bands.low) (top + bands.reach - bands.low) begins.tall (omega (arith, rise)) in
    let same : bands.first + last + 1 - (bands.first + first) ≡ last + 1 - first = omega arith in
    rw same (bands_taken bands.height bands.low bottom top bands.reach last begins.tall begins.above (omega (arith, rise)) (omega arith)
    (omega (arith, up, below)))

-- the item with a number, in the bands of its layer
pub record IsPlaced {Item : Type 0} (layer_of : Item → ℕ) (items : List Item) (grid : List LayerBands) (x : ℕ) (range : BandRange) : Type 0 where
  pub item : Item
  pub got : slice_get items x ≡ Some item
  pub within : layer_of item < length grid
  pub among : IsAmong (bands_at grid (layer_of item)) range

module _ {Item : Type 0} (rect_of : Item → RectModel) (layer_of : Item → ℕ) (reach_of : ℕ → ℕ) (layers : ℕ) (items : List Item) (spans : List LayerSpan)
    (grid : List LayerBands)
    (are_spans : AreSpans rect_of layer_of layers items spans) (is_grid : IsGrid reach_of layers spans grid) (few : length items < 2 ^ 32) where
  pub layer_within : (a : Item) → Contains items a → layer_of a < layers
  layer_within a has = All-contains (λ b. layer_of b < layers) items a are_spans.layered has

  pub proper_of : (a : Item) → Contains items a → IsRect (rect_of a)
  proper_of a has = All-contains (λ b. IsRect (rect_of b)) items a are_spans.proper has

  -- an item is counted on its layer
  counted : (a : Item) → Contains items a → 0 < count_by (λ b. eqb (layer_of b) (layer_of a)) items
  counted a (k, within, is) =
      let one : eqb (layer_of a) (layer_of a) ≡ true = eq-eqb (layer_of a) (layer_of a) refl in
      let there = rw (is, one) at (get_or-le-sum_by (λ b. cond (eqb (layer_of b) (layer_of a)) 1 0) items k a within) in
      omega (arith, there)

  -- an item begins in one of its layer's bands
  pub begins_at : (a : Item) → Contains items a → BeginsIn (bands_at grid (layer_of a)) (rect_of a)
  begins_at a has =
      let layer : ℕ = layer_of a in
      let within : layer < layers = layer_within a has in
      let span : LayerSpan = span_at spans layer in
      let own : LayerBands = bands_at grid layer in
      let is_span = are_spans.each layer within in
      let are = is_grid.each layer within in
      let low = All-contains (λ b. layer_of b ≡ layer → span.lowest ≤ offset_of (rect_of b).y1) items a is_span.lowest has refl in
      let high = All-contains (λ b. layer_of b ≡ layer → offset_of (rect_of b).y1 ≤ span.highest) items a is_span.highest has refl in
      let rises = quotient_rises own.height (offset_of (rect_of a).y1 - own.low) (span.highest - span.lowest) are.tall (omega (arith, are.low, high)) in
      let enough = are.enough (omega (arith, is_span.count, counted a has)) in
      let all = bands_within grid layer (omega (arith, is_grid.many, within)) in
      record {
        tall = are.tall;
        above = omega (arith, are.low, low);
        below = omega (arith, rises, enough);
        within = omega (arith, are.within);
        numbers = omega (arith, are.first, all, is_grid.few, sum_by-take-le (λ (s : LayerSpan). s.count) spans layers, are_spans.all, few);
      }

  -- each item begins in one of its layer's bands
  pub all_begin : All (λ a. BeginsIn (bands_at grid (layer_of a)) (rect_of a)) items
  all_begin = All-from_contains (λ a. BeginsIn (bands_at grid (layer_of a)) (rect_of a)) items begins_at

  -- the items of a layer stand in three bands at most, on average
  entries_on_layer : (layer : ℕ) → layer < layers
      → sum_by (on_layer layer_of (λ a. entries_of (range_in (bands_at grid (layer_of a)) (rect_of a))) layer) items ≤ 3 * count_by
      (λ a. eqb (layer_of a) layer) items
  entries_on_layer layer within =
      let own : LayerBands = bands_at grid layer in
      let entries : Item → ℕ = λ (a : Item). entries_of (range_in (bands_at grid (layer_of a)) (rect_of a)) in
      let tall : Item → ℕ = λ (a : Item). rect_height (rect_of a) in
      let is_span = are_spans.each layer within in
      let are = is_grid.each layer within in
      layer_thrice layer_of layer own.height own.reach entries tall items (span_at spans layer).count (span_at spans layer).total
      (All-from_contains (λ a. layer_of a ≡ layer → own.height * entries a ≤ 2 * own.height + (tall a + own.reach)) items
      (λ a has here. rw (← here) (range_taken (bands_at grid (layer_of a)) (rect_of a) (proper_of a has) (begins_at a has))))
      are.tall is_span.count is_span.total are.even

  module _ (ranges : List BandRange) (are_ranges : ranges ≡ map (λ a. range_in (bands_at grid (layer_of a)) (rect_of a)) items) where
    pub range_is : (x : ℕ) (a : Item) → slice_get items x ≡ Some a → range_at ranges x ≡ range_in (bands_at grid (layer_of a)) (rect_of a)
    range_is x a got =
        let range_of : Item → BandRange = λ (b : Item). range_in (bands_at grid (layer_of b)) (rect_of b) in
        rw are_ranges (get_or_from_slice_get (map range_of items) x (range_of a) (record { first = 0; last = 0 })
        (slice_get-map range_of items x ∙ ap (λ o. option_map range_of o) got))

    pub many_ranges : length ranges ≡ length items
    many_ranges = rw are_ranges (length-map items (λ (a : Item). range_in (bands_at grid (layer_of a)) (rect_of a)))

    pub placed : (x : ℕ) → x < length items → IsPlaced layer_of items grid x (range_at ranges x)
    placed x within =
        elim (slice_get_cases items x).1 [
          | inl there ↦
              let a : Item = there.0 in
              let got : slice_get items x ≡ Some a = there.2 in
              let has = contains_at items x a got in
              record {
                item = a;
                got = got;
                within = omega (arith, is_grid.many, layer_within a has);
                among = rw (range_is x a got) (range_among (bands_at grid (layer_of a)) (rect_of a) (proper_of a has) (begins_at a has));
              }
          | inr past ↦ absurd (omega (arith, past.0))
        ]

    -- an item stands in three bands at most, on average
    pub few_entries : sum_by (entries_at ranges) (range_with_len 0 (length items)) ≤ 3 * length items
    few_entries =
        let range_of : Item → BandRange = λ (a : Item). range_in (bands_at grid (layer_of a)) (rect_of a) in
        let places = rw many_ranges at (sum_by_places entries_of ranges (record { first = 0; last = 0 })) in
        let by_items : sum_by entries_of ranges ≡ sum_by (λ a. entries_of (range_of a)) items =
        rw are_ranges (sum_by-map entries_of range_of items) in
        let thrice = sum_thrice layer_of (λ a. entries_of (range_of a)) items layers are_spans.layered entries_on_layer in
        omega (arith, places, by_items, thrice)
