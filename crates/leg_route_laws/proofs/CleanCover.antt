-- A rectangle whose points lie in clean ones is clean.
use Rattle.std.proofs.Common.{ℕ, Contains}
use Rattle.leg_geom.specs.Plane.{PointModel, RectModel, HasPoint}
use Rattle.leg_lib_records.specs.Records.{LibraryModel}
use Rattle.leg_design_records.specs.Records.{DesignModel}
use Rattle.leg_design_records.specs.declared.records.Wire.{Wire}
use Rattle.leg_rules.specs.Metal.Outline.{Outline}
use Rattle.leg_rules.specs.Metal.Metal.{OnLayer, wire_outlines}
use Rattle.leg_rules.specs.Metal.Flat.{FlatModel}
use Rattle.leg_rules.specs.Spacing.RequiredSpacing.{greatest_spacing_on}
use Rattle.leg_rules.specs.Spacing.Clean.{IsClean}
use Rattle.leg_wire_spacing.proofs.CloserShapes.{close_at_point}
use Rattle.leg_route_laws.specs.CleanWire.{IsRectOf, IsCleanWire, HasCleanRect, LiesInClean}

module _ (library : LibraryModel) (flat : FlatModel) (net layer : ℕ) where
  -- What is close to the rectangle is close to one of its points, and as close to the clean one with that point: the bound is one
  -- for all metal on the layer.
  pub covered : (rect : RectModel) → ((p : PointModel) → HasPoint rect p → LiesInClean library flat net layer p) → IsClean library flat net layer rect
  covered rect clean = record {
    far = λ shape there closer.
        let at = close_at_point (greatest_spacing_on library layer) net layer rect shape closer in
        let it = clean at.p at.inside in
        it.clean.far shape there (at.as_close it.rect it.inside);
  }

  -- each rectangle of an outline is clean if one is that covers it
  pub covered_outline : (outline : Outline) (rect : RectModel) → HasCleanRect library flat net layer outline → IsRectOf outline rect
      → IsClean library flat net layer rect
  covered_outline outline rect has is =
      covered rect (λ p inside. record { rect = has.rect; clean = has.clean; inside = has.covers p ((is p).0 inside) })

pub clean_wire : (design : DesignModel) (flat : FlatModel) (net : ℕ) (wire : Wire)
    → ((metal : OnLayer) → Contains (wire_outlines design wire) metal → HasCleanRect design.library flat net metal.layer metal.outline)
    → IsCleanWire design flat net wire
clean_wire design flat net wire has metal rect there is =
    covered_outline design.library flat net metal.layer metal.outline rect (has metal there) is
