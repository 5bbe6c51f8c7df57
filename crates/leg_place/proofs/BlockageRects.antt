-- The rectangles of placement blockages.
use Rattle.std.proofs.Common.{◌≡◌, ℕ, ◌+◌, ◌≤◌, List, [], ◌∷◌, ◌++◌, length, map, take, get_or, Option, None, Some, sym, ap, refl, append_assoc, ◌∙◌, arith}
use Rattle.std.proofs.lemmas.List.{append-nil, take_more, map-append, length-append}
use Rattle.leg_geom.specs.Plane.{RectModel}
use Rattle.leg_design_records.specs.Records.{BlockageModel, blockage_said, rects_without_layer, placement_rects, rect_count}
use Rattle.leg_design_records.specs.declared.records.Blockage.{Blockage}
use Rattle.leg_design_records.specs.declared.records.Blockage.TheVariants.{LayerRects, Placement}

-- those of one more entry
pub rects_push : (entries : List BlockageModel) (entry : BlockageModel)
    → placement_rects (entries ++ entry ∷ []) ≡ placement_rects entries ++ rects_without_layer entry.layer entry.rects
rects_push [] entry = append-nil (rects_without_layer entry.layer entry.rects)
rects_push (first ∷ entries) entry =
    ap (λ rects. rects_without_layer first.layer first.rects ++ rects) (rects_push entries entry)
    ∙ sym (append_assoc (rects_without_layer first.layer first.rects) (placement_rects entries) (rects_without_layer entry.layer entry.rects))

module _ {A : Type 0} (blockage : Blockage A) where
  pub rects_of_placement : (rects : List RectModel) → blockage ≡ Placement rects
      → rects_without_layer (blockage_said blockage).layer (blockage_said blockage).rects ≡ rects
  rects_of_placement rects is = rw is refl

  pub rects_of_layer : (layer : ℕ) (rects : List RectModel) → blockage ≡ LayerRects layer rects
      → rects_without_layer (blockage_said blockage).layer (blockage_said blockage).rects ≡ []
  rects_of_layer layer rects is = rw is refl

-- the entries up to one more, as a walk over the blockages reads it
pub rects_more : {A : Type 0} (blockages : List (Blockage A)) (i : ℕ) (blockage : Blockage A) → i + 1 ≤ length blockages
    → blockage ≡ get_or blockages i blockage
    → placement_rects (map blockage_said (take (i + 1) blockages))
    ≡ placement_rects (map blockage_said (take i blockages)) ++ rects_without_layer (blockage_said blockage).layer (blockage_said blockage).rects
rects_more blockages i blockage within is =
    let more : take (i + 1) blockages ≡ take i blockages ++ blockage ∷ [] =
    take_more blockages i blockage (omega (arith, within)) ∙ ap (λ z. take i blockages ++ z ∷ []) (sym is) in
    rw (more, map-append) (rects_push (map blockage_said (take i blockages)) (blockage_said blockage))

-- they are no more than the rectangles of all entries
without_layer_few : (layer : Option ℕ) (rects : List RectModel) → length (rects_without_layer layer rects) ≤ length rects
without_layer_few None rects = omega arith
without_layer_few (Some layer) rects = omega arith

pub rects_few : (entries : List BlockageModel) → length (placement_rects entries) ≤ rect_count entries
rects_few [] = omega arith
rects_few (entry ∷ entries) =
    let here = without_layer_few entry.layer entry.rects in
    omega (arith, here, rects_few entries, length-append (rects_without_layer entry.layer entry.rects) (placement_rects entries))
