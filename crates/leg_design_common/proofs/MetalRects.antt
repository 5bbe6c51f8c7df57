-- Rectangles on one layer, one after the other.
use Rattle.std.proofs.Common.{◌≡◌, ℕ, ◌+◌, ◌<◌, ◌≤◌, List, length, take, get_or, ap, ◌∙◌, sym}
use Rattle.std.proofs.lemmas.List.{take_all}
use Rattle.std.proofs.lemmas.List.Sums.{fold_more}
use Rattle.leg_geom.specs.Plane.{RectModel}
use Rattle.leg_lib_records.specs.declared.records.Shape.{Shape}
use Rattle.leg_lib_records.specs.Records.{LibraryModel}
use Rattle.leg_grammar.specs.Def.Layers.{with_rect, with_rects}

module _ (library : LibraryModel) (layer : ℕ) (before made next : List Shape) (rects : List RectModel) (i : ℕ) where
  -- one more rectangle
  pub one_rect_more : (rect : RectModel) → i < length rects → rect ≡ get_or rects i rect → made ≡ with_rects library layer (take i rects) before
      → next ≡ with_rect library layer rect made → next ≡ with_rects library layer (take (i + 1) rects) before
  one_rect_more rect less is so_far more =
      more ∙ ap (with_rect library layer rect) so_far
      ∙ ap (λ r. with_rect library layer r (with_rects library layer (take i rects) before)) is
      ∙ sym (fold_more (λ shapes r. with_rect library layer r shapes) before rects i rect less)

  pub all_rects : length rects ≤ i → made ≡ with_rects library layer (take i rects) before → made ≡ with_rects library layer rects before
  all_rects past so_far = so_far ∙ ap (λ r. with_rects library layer r before) (take_all i rects past)
