-- The bands of each layer, and what they are made from. A height is above the lowest coordinate.
use Rattle.std.specs.Prelude.{◌≡◌, ℕ, ◌+◌, ◌-◌, ◌*◌, ◌/◌, ◌^◌, ◌≤◌, ◌<◌, ◌==◌, min, max, List, length, take, count_by, sum_by, slice_index_or, All, if◌then◌else◌}
use Rattle.leg_geom.specs.declared.limits.TheConstants.{COORDINATE_LIMIT}
use Rattle.leg_geom.specs.Plane.{RectModel, IsRect}
use Rattle.leg_sweep.specs.declared.band.BandRange.{BandRange}
use Rattle.leg_sweep.specs.declared.grid.LayerSpan.{LayerSpan}
use Rattle.leg_sweep.specs.declared.grid.LayerBands.{LayerBands}
use Rattle.leg_sweep.specs.Steps.Offsets.{offset_of}
use Rattle.leg_sweep.specs.Steps.Bands.{Waiting, empty_band, waiting_at, AreEmpty}

-- the height of a rectangle
abbrev pub rect_height : RectModel → ℕ
rect_height rect = offset_of rect.y2 - offset_of rect.y1

-- what no items span
abbrev pub no_span : LayerSpan
no_span = record { count = 0; total = 0; lowest = 2 * COORDINATE_LIMIT; highest = 0 }

abbrev pub span_at : List LayerSpan → ℕ → LayerSpan
span_at spans layer = slice_index_or spans layer no_span

-- what they span together with one more rectangle
abbrev pub span_with : LayerSpan → RectModel → LayerSpan
span_with span rect = record {
  count = span.count + 1;
  total = span.total + rect_height rect;
  lowest = min span.lowest (offset_of rect.y1);
  highest = max span.highest (offset_of rect.y1);
}

-- no height is above that of the highest coordinate
pub record IsSmall (span : LayerSpan) : Type 0 where
  pub total : span.total ≤ span.count * (2 * COORDINATE_LIMIT)
  pub highest : span.highest ≤ 2 * COORDINATE_LIMIT

-- what the items on a layer span: how many they are, the sum of their heights, and between which heights the bottom edges lie
pub record IsSpan {Item : Type 0} (rect_of : Item → RectModel) (layer_of : Item → ℕ) (items : List Item) (layer : ℕ) (span : LayerSpan) : Type 0 where
  pub count : span.count ≡ count_by (λ a. layer_of a == layer) items
  pub total : span.total ≡ sum_by (λ a. if layer_of a == layer then rect_height (rect_of a) else 0) items
  pub lowest : All (λ a. layer_of a ≡ layer → span.lowest ≤ offset_of (rect_of a).y1) items
  pub highest : All (λ a. layer_of a ≡ layer → offset_of (rect_of a).y1 ≤ span.highest) items
  pub small : IsSmall span

-- what the items on each of this many layers span, where all items lie
pub record AreSpans {Item : Type 0} (rect_of : Item → RectModel) (layer_of : Item → ℕ) (layers : ℕ) (items : List Item) (spans : List LayerSpan) : Type 0 where
  pub many : length spans ≡ layers
  pub proper : All (λ a. IsRect (rect_of a)) items
  pub layered : All (λ a. layer_of a < layers) items
  pub each : (layer : ℕ) → layer < layers → IsSpan rect_of layer_of items layer (span_at spans layer)
  pub all : sum_by (λ span. span.count) spans ≡ length items

-- Bands of a layer, where items have this span. The items, each with the reach above it, are together no higher than as many bands.
pub record AreBandsOf (span : LayerSpan) (number reach : ℕ) (bands : LayerBands) : Type 0 where
  pub first : bands.first ≡ number
  pub low : bands.low ≡ span.lowest
  pub within : bands.reach ≡ min reach (2 * COORDINATE_LIMIT)
  pub tall : 0 < bands.height
  pub even : span.total + span.count * bands.reach ≤ span.count * bands.height
  pub enough : 0 < span.count → (span.highest - span.lowest) / bands.height < bands.count
  pub few : bands.count ≤ span.count

abbrev pub bands_at : List LayerBands → ℕ → LayerBands
bands_at grid layer = slice_index_or grid layer (record { first = 0; count = 0; height = 0; low = 0; reach = 0 })

-- how many bands the layers below have
abbrev pub bands_below : List LayerBands → ℕ → ℕ
bands_below grid layer = sum_by (λ bands. bands.count) (take layer grid)

-- the bands of each of the first layers, numbered through, and no more of them than items
pub record IsGrid (reach_of : ℕ → ℕ) (layers : ℕ) (spans : List LayerSpan) (grid : List LayerBands) : Type 0 where
  pub many : length grid ≡ layers
  pub each : (layer : ℕ) → layer < layers → AreBandsOf (span_at spans layer) (bands_below grid layer) (reach_of layer) (bands_at grid layer)
  pub few : sum_by (λ bands. bands.count) grid ≤ sum_by (λ span. span.count) (take layers spans)

-- The rectangle begins in one of the bands. Their numbers are 32 bits long.
pub record BeginsIn (bands : LayerBands) (rect : RectModel) : Type 0 where
  pub tall : 0 < bands.height
  pub above : bands.low ≤ offset_of rect.y1
  pub below : (offset_of rect.y1 - bands.low) / bands.height < bands.count
  pub within : bands.reach ≤ 2 * COORDINATE_LIMIT
  pub numbers : bands.first + bands.count < 2 ^ 32

-- from the band of the bottom edge to that of what lies the reach above the top edge, or to the topmost
abbrev pub range_in : LayerBands → RectModel → BandRange
range_in bands rect = record {
  first = bands.first + (offset_of rect.y1 - bands.low) / bands.height;
  last = bands.first + min ((offset_of rect.y2 + bands.reach - bands.low) / bands.height) (bands.count - 1);
}

-- all bands of the first layers, in which no item waits
pub record AreBandsBelow (reach_of : ℕ → ℕ) (grid : List LayerBands) (layers : ℕ) (bands : List Waiting) : Type 0 where
  pub many : length bands ≡ bands_below grid layers
  pub each : (layer k : ℕ) → layer < layers → bands_below grid layer ≤ k → k < bands_below grid layer + (bands_at grid layer).count
      → waiting_at bands k ≡ empty_band (reach_of layer)
  pub empty : AreEmpty bands
