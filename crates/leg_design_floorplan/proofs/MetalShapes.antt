-- Rectangles on layers with metal.
use Rattle.std.proofs.Common.{◌≡◌, ℕ, Bool, true, false, if◌then◌else◌, List, [], ◌∷◌, ◌++◌, All, refl}
use Rattle.std.proofs.lemmas.List.Elements.{All-push, All-head, All-tail}
use Rattle.leg_geom.specs.Plane.{RectModel}
use Rattle.leg_lib_records.specs.declared.records.Shape.{Shape}
use Rattle.leg_lib_records.specs.Records.{LibraryModel}
use Rattle.leg_grammar.specs.Def.Layers.{with_rect, with_rects}
use Rattle.leg_design_records.specs.Layers.{has_metal}
use Rattle.leg_design_records.specs.WellFormedParts.{IsArea, IsMetalShape}

module _ (library : LibraryModel) where
  -- the rectangles are on layers with metal
  abbrev pub AreMetal : List Shape → Type 0
  AreMetal shapes = All (IsMetalShape library) shapes

  pub with_rect_metal : (number : ℕ) (rect : RectModel) (shapes : List Shape) → IsArea rect → AreMetal shapes → AreMetal (with_rect library number rect shapes)
  with_rect_metal number rect shapes area each = by (has_metal library number) refl where
    by : (metal : Bool) → has_metal library number ≡ metal → AreMetal (if metal then shapes ++ record { layer = number; rect = rect } ∷ [] else shapes)
    by true is = All-push (IsMetalShape library) shapes (record { layer = number; rect = rect }) each (record { metal = is; rect = area })
    by false is = each

  pub with_rects_metal : (number : ℕ) (rects : List RectModel) (shapes : List Shape) → All IsArea rects → AreMetal shapes
      → AreMetal (with_rects library number rects shapes)
  with_rects_metal number [] shapes areas each = each
  with_rects_metal number (rect ∷ rects) shapes areas each =
      with_rects_metal number rects (with_rect library number rect shapes) (All-tail IsArea rect rects areas)
      (with_rect_metal number rect shapes (All-head IsArea rect rects areas) each)
