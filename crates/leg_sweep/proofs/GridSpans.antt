-- What the items on each layer span, one item after the other.
use Rattle.std.proofs.Common.{◌≡◌, ◌≢◌, ℕ, ◌<◌, ◌≤◌, min, max, true, false, cond, eqb, List, [], ◌∷◌, ◌++◌, length, set, inl, inr, refl, sym, ◌∙◌, arith}
use Rattle.std.proofs.lemmas.Bool.{cases_eq, eq-eqb, ne_eqb}
use Rattle.std.proofs.lemmas.List.{length-set, length_push, get_or-set_same, get_or-set_other}
use Rattle.std.proofs.lemmas.List.Elements.{All-push, All-weaker}
use Rattle.std.proofs.lemmas.List.Sums.{sum_by_push, sum_by-set}
use Rattle.leg_geom.specs.Plane.{RectModel, IsRect}
use Rattle.leg_sweep.specs.declared.grid.LayerSpan.{LayerSpan}
use Rattle.leg_sweep.specs.Steps.Offsets.{offset_of}
use Rattle.leg_sweep.specs.Steps.Grid.{rect_height, no_span, span_at, span_with, IsSmall, IsSpan, AreSpans}
use Rattle.leg_sweep.proofs.GridHeights.{height_small}

-- one more rectangle's height is small too
pub small_more : (span : LayerSpan) (rect : RectModel) → IsRect rect → IsSmall span → IsSmall (span_with span rect)
small_more span rect is small =
    let bottom = height_small rect.y1 is.y1 in
    let top = height_small rect.y2 is.y2 in
    let total = small.total in
    let highest = small.highest in
    record { total = omega (arith, top, total); highest = omega (arith, bottom, highest) }

module _ {Item : Type 0} (rect_of : Item → RectModel) (layer_of : Item → ℕ) where
  module _ (items : List Item) (a : Item) (layer : ℕ) (span : LayerSpan) (so_far : IsSpan rect_of layer_of items layer span) where
    -- one more item on the layer
    span_here : IsRect (rect_of a) → layer_of a ≡ layer → IsSpan rect_of layer_of (items ++ a ∷ []) layer (span_with span (rect_of a))
    span_here is here =
        let same : eqb (layer_of a) layer ≡ true = eq-eqb (layer_of a) layer here in
        let counted = rw same at (sum_by_push (λ b. cond (eqb (layer_of b) layer) 1 0) items a) in
        let added = rw same at (sum_by_push (λ b. cond (eqb (layer_of b) layer) (rect_height (rect_of b)) 0) items a) in
        let bottom : ℕ = offset_of (rect_of a).y1 in
        record {
          count = omega (arith, counted, so_far.count);
          total = omega (arith, added, so_far.total);
          lowest =
              All-push (λ b. layer_of b ≡ layer → min span.lowest bottom ≤ offset_of (rect_of b).y1) items a
              (All-weaker (λ b. layer_of b ≡ layer → span.lowest ≤ offset_of (rect_of b).y1)
              (λ b. layer_of b ≡ layer → min span.lowest bottom ≤ offset_of (rect_of b).y1)
              (λ b old there. omega (arith, old there)) items so_far.lowest)
              (λ there. omega arith);
          highest =
              All-push (λ b. layer_of b ≡ layer → offset_of (rect_of b).y1 ≤ max span.highest bottom) items a
              (All-weaker (λ b. layer_of b ≡ layer → offset_of (rect_of b).y1 ≤ span.highest)
              (λ b. layer_of b ≡ layer → offset_of (rect_of b).y1 ≤ max span.highest bottom)
              (λ b old there. omega (arith, old there)) items so_far.highest)
              (λ there. omega arith);
          small = small_more span (rect_of a) is so_far.small;
        }

    -- one more item on another layer
    span_other : layer_of a ≢ layer → IsSpan rect_of layer_of (items ++ a ∷ []) layer span
    span_other other =
        let differs : eqb (layer_of a) layer ≡ false = ne_eqb (layer_of a) layer other in
        let counted = rw differs at (sum_by_push (λ b. cond (eqb (layer_of b) layer) 1 0) items a) in
        let added = rw differs at (sum_by_push (λ b. cond (eqb (layer_of b) layer) (rect_height (rect_of b)) 0) items a) in
        record {
          count = omega (arith, counted, so_far.count);
          total = omega (arith, added, so_far.total);
          lowest = All-push (λ b. layer_of b ≡ layer → span.lowest ≤ offset_of (rect_of b).y1) items a so_far.lowest (λ there. absurd (other there));
          highest = All-push (λ b. layer_of b ≡ layer → offset_of (rect_of b).y1 ≤ span.highest) items a so_far.highest (λ there. absurd (other there));
          small = so_far.small;
        }

  -- one more item
  pub spans_more : (layers : ℕ) (items : List Item) (spans : List LayerSpan) (a : Item) → AreSpans rect_of layer_of layers items spans → IsRect (rect_of a)
      → layer_of a < layers
      → AreSpans rect_of layer_of layers (items ++ a ∷ []) (set spans (layer_of a) (span_with (span_at spans (layer_of a)) (rect_of a)))
  spans_more layers items spans a so_far is below =
      let here : ℕ = layer_of a in
      let old : LayerSpan = span_at spans here in
      let new : LayerSpan = span_with old (rect_of a) in
      let within : here < length spans = omega (arith, so_far.many, below) in
      record {
        many = length-set spans here new ∙ so_far.many;
        proper = All-push (λ b. IsRect (rect_of b)) items a so_far.proper is;
        layered = All-push (λ b. layer_of b < layers) items a so_far.layered below;
        each = λ layer in_layers. elim (cases_eq layer here) [
          | inl same ↦ rw (same, get_or-set_same spans here new no_span within) (span_here items a here old (so_far.each here below) is refl)
          | inr other ↦
              rw (get_or-set_other spans here layer new no_span other)
              (span_other items a layer (span_at spans layer) (so_far.each layer in_layers) (λ same. other (sym same)))
        ];
        all = omega (arith, so_far.all, sum_by-set (λ (span : LayerSpan). span.count) spans here new no_span within, length_push items a);
      }
