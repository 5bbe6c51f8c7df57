-- Numbers in registers, and shapes of metal that are one piece.
use Rattle.std.proofs.Common.{◌≡◌, ◌↔◌, ℕ, ℤ, List, [], ◌∷◌, ◌++◌, w64, to_z, of_z, refl, ◌∙◌}
use Rattle.leg_lex.specs.Number.{IsNumber}
use Rattle.leg_lex.proofs.InBits.{number_kept}
use Rattle.leg_geom.specs.Plane.{PointModel, RectModel, IsRect, HasPoint}
use Rattle.leg_lib_records.specs.Measure.{ExtentModel, IsExtent}
use Rattle.leg_design_records.specs.declared.records.Wire.TheVariants.{Segment}
use Rattle.leg_design_records.specs.Records.{DesignModel}
use Rattle.leg_rules.specs.declared.shape.Shape.{Shape}
use Rattle.leg_rules.specs.Metal.Outline.{HasPointOf}
use Rattle.leg_rules.specs.Metal.Outline.Outline.{Line}
use Rattle.leg_rules.specs.Metal.Metal.{Belonging, belonging, wire_outlines}
use Rattle.leg_flat.specs.Steps.Bounds.{IsLineWithin}
use Rattle.leg_flat.specs.Steps.AddedMetal.{AddsMetal}
use Rattle.leg_flat.proofs.MoreMetal.{adds_one}

same_size : (w h : ℤ) (size : ExtentModel) → w ≡ size.width → h ≡ size.height → record { width = w; height = h } ≡ size
same_size w h size e f = rw (e, f) refl

pub kept_size : (w h : ℤ) (size : ExtentModel) → w ≡ size.width → h ≡ size.height → IsExtent size
    → record { width = to_z w64 (of_z w64 w); height = to_z w64 (of_z w64 h) } ≡ size
kept_size w h size e f is =
    let width : IsNumber w = rw e is.width in
    let height : IsNumber h = rw f is.height in
    same_size _ _ size (number_kept w width ∙ e) (number_kept h height ∙ f)

-- a segment is one shape
pub segment_adds : (design : DesignModel) (layer : ℕ) (from to : PointModel) (width ext_from ext_to : ℤ) (belongs : Belonging) (s after : List Shape)
    (rect : RectModel) → IsRect rect → IsLineWithin from to width ext_from ext_to
    → ((p : PointModel) → HasPoint rect p ↔ HasPointOf
    (Line from to (to_z w64 (of_z w64 width)) (to_z w64 (of_z w64 ext_from)) (to_z w64 (of_z w64 ext_to))) p)
    → after ≡ s ++ record { layer = layer; rect = rect; owner = belongs.owner; component = belongs.component; piece = belongs.piece } ∷ []
    → AddsMetal (belonging belongs (wire_outlines design (Segment layer from to width ext_from ext_to))) s after
segment_adds design layer from to width ext_from ext_to belongs s after rect proper is points grown =
    let e = number_kept width is.wide.within in
    let f = number_kept ext_from is.before.within in
    let h = number_kept ext_to is.behind.within in
    adds_one _ s after _ grown (record {
      layer = refl;
      proper = proper;
      points = rw (e, f, h) at points;
      owner = refl;
      component = refl;
      piece = refl;
    })
