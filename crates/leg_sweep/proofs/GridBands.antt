-- The bands of all layers, layer after layer.
use Rattle.std.proofs.Common.{◌≡◌, ℕ, ◌+◌, ◌-◌, ◌<◌, ◌≤◌, List, [], ◌∷◌, ◌++◌, length, take, replicate, sum_by, inl, inr, refl, ap, ◌∙◌, arith}
use Rattle.std.proofs.lemmas.Bool.{cases_lt}
use Rattle.std.proofs.lemmas.List.{length-append, length-replicate, length-take-le, length_push, get_or_append_left, get_or-append_right, get_or-replicate, get_or_past, get_or_push, get_or-take, take-take, take-append-le, take_all}
use Rattle.std.proofs.lemmas.List.Sums.{sum_by_push, sum_by_more, sum_by_more_le}
use Rattle.leg_sweep.specs.declared.grid.LayerSpan.{LayerSpan}
use Rattle.leg_sweep.specs.declared.grid.LayerBands.{LayerBands}
use Rattle.leg_sweep.specs.Steps.Bands.{Waiting, empty_band, AreEmpty}
use Rattle.leg_sweep.specs.Steps.Grid.{no_span, span_at, bands_at, bands_below, AreBandsOf, IsGrid, AreBandsBelow}

-- what stands past the end of the layers
abbrev no_bands : LayerBands
no_bands = record { first = 0; count = 0; height = 0; low = 0; reach = 0 }

module _ (grid : List LayerBands) where
  -- how many bands there are with one more layer
  pub bands_below_next : (layer : ℕ) → layer < length grid → bands_below grid (layer + 1) ≡ bands_below grid layer + (bands_at grid layer).count
  bands_below_next layer within = sum_by_more (λ (bands : LayerBands). bands.count) grid layer no_bands within

  -- a layer's bands are below those of the layers above
  pub bands_rise : (layer above : ℕ) → layer < above → above ≤ length grid → bands_below grid layer + (bands_at grid layer).count ≤ bands_below grid above
  bands_rise layer above below within =
      let count = λ (bands : LayerBands). bands.count in
      let long : length (take above grid) ≡ above = length-take-le above grid within in
      let sum = sum_by_more_le count (take above grid) layer no_bands (omega (arith, long, below)) in
      rw (take-take layer above grid (omega arith), get_or-take above grid layer no_bands below) at sum

  -- and among all
  pub bands_within : (layer : ℕ) → layer < length grid → bands_below grid layer + (bands_at grid layer).count ≤ sum_by (λ bands. bands.count) grid
  bands_within layer within = sum_by_more_le (λ (bands : LayerBands). bands.count) grid layer no_bands within

module _ (reach_of : ℕ → ℕ) (spans : List LayerSpan) where
  -- one more layer
  pub grid_more : (layers : ℕ) (grid : List LayerBands) (bands : LayerBands) → IsGrid reach_of layers spans grid → layers < length spans
      → AreBandsOf (span_at spans layers) (sum_by (λ bands. bands.count) grid) (reach_of layers) bands → IsGrid reach_of (layers + 1) spans (grid ++ bands ∷ [])
  grid_more layers grid bands so_far within new =
      let count = λ (bands : LayerBands). bands.count in
      let more = sum_by_more (λ (span : LayerSpan). span.count) spans layers no_span within in
      record {
        many = length_push grid bands ∙ ap (λ n. n + 1) so_far.many;
        each = λ layer below. elim (cases_lt layer layers) [
          | inl earlier ↦
              let there : layer < length grid = omega (arith, so_far.many, earlier) in
              rw (take-append-le layer grid (bands ∷ []) (omega arith), get_or_append_left grid (bands ∷ []) no_bands layer there) (so_far.each layer earlier)
          | inr last ↦
              let here : layer ≡ layers = omega arith in
              let all : take layers (grid ++ bands ∷ []) ≡ grid =
              take-append-le layers grid (bands ∷ []) (omega (arith, so_far.many)) ∙ take_all layers grid (omega (arith, so_far.many)) in
              rw (here, all, get_or_push grid bands no_bands layers so_far.many) new
        ];
        few = omega (arith, so_far.few, new.few, more, sum_by_push count grid bands);
      }

-- bands of one more layer are empty too
empty_more : (bands : List Waiting) (count reach : ℕ) → AreEmpty bands → AreEmpty (bands ++ replicate count (empty_band reach))
empty_more bands count reach empty k =
    let more : List Waiting = replicate count (empty_band reach) in
    let none : Waiting = empty_band 0 in
    elim (cases_lt k (length bands)) [
      | inl earlier ↦ rw (get_or_append_left bands more none k earlier) (empty k)
      | inr later ↦
          rw (get_or-append_right bands more (length bands) k none refl later)
          (elim (cases_lt (k - length bands) count) [
            | inl within ↦ rw (get_or-replicate count (k - length bands) (empty_band reach) none within) refl
            | inr past ↦ rw (get_or_past more (k - length bands) none (omega (arith, past, length-replicate count (empty_band reach)))) refl
          ])
    ]

module _ (reach_of : ℕ → ℕ) (grid : List LayerBands) where
  -- the bands of one more layer
  pub bands_more : (layers : ℕ) (bands : List Waiting) → AreBandsBelow reach_of grid layers bands → layers < length grid
      → AreBandsBelow reach_of grid (layers + 1) (bands ++ replicate (bands_at grid layers).count (empty_band (reach_of layers)))
  bands_more layers bands so_far within =
      let count : ℕ = (bands_at grid layers).count in
      let none : Waiting = empty_band 0 in
      let more : List Waiting = replicate count (empty_band (reach_of layers)) in
      let next = bands_below_next grid layers within in
      record {
        many = omega (arith, length-append bands more, length-replicate count (empty_band (reach_of layers)), next, so_far.many);
        each = λ layer k below low high. elim (cases_lt layer layers) [
          | inl earlier ↦
              let there : k < length bands = omega (arith, high, bands_rise grid layer layers earlier (omega arith), so_far.many) in
              rw (get_or_append_left bands more none k there) (so_far.each layer k earlier low high)
          | inr last ↦
              let here : layer ≡ layers = omega arith in
              let from : length bands ≤ k = omega (arith, so_far.many, rw here at low) in
              let to : k - length bands < count = omega (arith, so_far.many, rw here at high) in
              rw (
                here,
                get_or-append_right bands more (length bands) k none refl from,
                get_or-replicate count (k - length bands) (empty_band (reach_of layers)) none to,
              ) refl
        ];
        empty = empty_more bands count (reach_of layers) so_far.empty;
      }
