-- Shapes that are too close. The rule of the search needs the laws after the definition.
use Rattle.std.proofs.Common.{◌≡◌, ◌≤◌, ℕ, min, length, inl, inr, refl, arith}
use Rattle.std.proofs.lemmas.Bool.{cases_lt}
use Rattle.leg_geom.specs.Gap.{x_gap, y_gap}
use Rattle.leg_lib_records.specs.Records.{LibraryModel}
use Rattle.leg_rules.specs.declared.shape.Shape.{Shape}
use Rattle.leg_rules.specs.Spacing.RequiredSpacing.{greatest_spacing_on, required_spacing}
use Rattle.leg_rules.specs.Spacing.Closer.{AreCloserThan}
use Rattle.leg_wire_spacing.proofs.RequiredSpacing.{required_within, required_back, none_beyond}
use Rattle.leg_wire_spacing.proofs.CloserShapes.{closer_back, AreCloserThan-gaps}

-- two comparable shapes share a point, or lie nearer than the spacing that is required of them
abbrev pub AreClose : LibraryModel → Shape → Shape → Type 0
AreClose library a b = AreCloserThan (required_spacing library a b) a b

-- shapes are too close in either order
pub AreClose-symmetric : (library : LibraryModel) (a b : Shape) → AreClose library a b → AreClose library b a
AreClose-symmetric library a b h = rw (← required_back library a b h.comparable.layer) (closer_back (required_spacing library a b) a b h)

-- the gaps of the shapes are within this
abbrev AreGapsWithin : ℕ → Shape → Shape → Type 0
AreGapsWithin reach a b = (x_gap a.rect b.rect ≤ reach) × (y_gap a.rect b.rect ≤ reach)

-- shapes that are too close have both gaps within the greatest spacing on their layer
AreClose-near_greatest : (library : LibraryModel) (a b : Shape) → AreClose library a b → AreGapsWithin (greatest_spacing_on library a.layer) a b
AreClose-near_greatest library a b h =
    let gaps = AreCloserThan-gaps (required_spacing library a b) a b h in
    let within = required_within library a b in
    (omega (arith, gaps.0, within), omega (arith, gaps.1, within))

-- which is within a reach that none is beyond
pub AreClose-near : (library : LibraryModel) (reach : ℕ) → ((layer : ℕ) → greatest_spacing_on library layer ≤ reach) → (a b : Shape) → AreClose library a b
    → AreGapsWithin reach a b
AreClose-near library reach bound a b h =
    let gaps = AreClose-near_greatest library a b h in
    let within = bound a.layer in
    (omega (arith, gaps.0, within), omega (arith, gaps.1, within))

-- a number beyond the layers has no spacing
greatest-beyond : (library : LibraryModel) (layer : ℕ) → greatest_spacing_on library (min layer (length library.layers)) ≡ greatest_spacing_on library layer
greatest-beyond library layer =
    elim (cases_lt layer (length library.layers)) [
      | inl there ↦ let same : min layer (length library.layers) ≡ layer = omega (arith, there) in rw same refl
      | inr beyond ↦
          let same : min layer (length library.layers) ≡ length library.layers = omega (arith, beyond) in
          rw (same, none_beyond library (length library.layers) (omega arith), none_beyond library layer beyond) refl
    ]

-- The reach of the search is that of the layer, where the layers above the highest count as one.
pub AreClose-near_on_layer : (library : LibraryModel) (a b : Shape) → AreClose library a b
    → AreGapsWithin (greatest_spacing_on library (min a.layer (length library.layers))) a b
AreClose-near_on_layer library a b h = rw (greatest-beyond library a.layer) (AreClose-near_greatest library a b h)
