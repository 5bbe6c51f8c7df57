-- Patches that are open.
use Rattle.std.proofs.Common.{◌≡◌, ℕ, suc, zero, ◌<◌, ◌↔◌, ℤ, pos, negsuc, ◌+ℤ◌, ◌≤ℤ◌, ◌<ℤ◌, [], ◌∷◌, Contains, get_or, refl, subst, arith}
use Rattle.std.proofs.lemmas.Int.{ints}
use Rattle.leg_lex.specs.Number.{IsNumber}
use Rattle.leg_geom.specs.Plane.{PointModel, RectModel, HasPoint}
use Rattle.leg_lib_records.specs.Sound.{IsWidth}
use Rattle.leg_lib_records.specs.Records.{LibraryModel}
use Rattle.leg_design_records.specs.Records.{DesignModel}
use Rattle.leg_rules.specs.Metal.Outline.{Outline, HasPointOf}
use Rattle.leg_rules.specs.Metal.Metal.{OnLayer}
use Rattle.leg_rules.specs.Metal.Flat.{FlatModel}
use Rattle.leg_rules.specs.Spacing.RequiredSpacing.{greatest_spacing_on}
use Rattle.leg_rules.specs.Spacing.Clean.{IsClean}
use Rattle.leg_rules.specs.Route.StepWires.{half}
use Rattle.leg_wire_spacing.proofs.CloserShapes.{close_at_point}

-- half of a width is above 0, and is a number that a DEF may have
pub record IsHalf (h : ℤ) : Type 0 where
  pub some : pos 1 ≤ℤ h
  pub within : IsNumber h

pub half_is : (width : ℤ) → IsWidth width → IsHalf (half width)
half_is (pos a) is =
    let above = is.above in
    let within = is.within in
    let even = is.even in
    record { some = halved a even.0 even.1 above; within = omega (arith, ints) } where
      halved : (a : ℕ) (h : ℤ) → pos a ≡ h +ℤ h → pos 0 <ℤ pos a → pos 1 ≤ℤ half (pos a)
      halved a h e above = omega (arith, ints)
half_is (negsuc a) is = absurd (let above = is.above in let e : ⊥ = omega (arith, ints) in e)

-- what lies within clean metal is clean
pub clean_within : (library : LibraryModel) (flat : FlatModel) (net layer : ℕ) (rect r : RectModel) → ((p : PointModel) → HasPoint r p → HasPoint rect p)
    → IsClean library flat net layer rect → IsClean library flat net layer r
clean_within library flat net layer rect r within clean = record {
  far = λ shape has closer.
      let at = close_at_point (greatest_spacing_on library layer) net layer r shape closer in
      clean.far shape has (at.as_close rect (within at.p at.inside));
}

-- metal of one outline, which has the points of a rectangle
module _ (design : DesignModel) (flat : FlatModel) (net layer : ℕ) (outline : Outline) (rect : RectModel)
    (points : (p : PointModel) → HasPoint rect p ↔ HasPointOf outline p) where
  abbrev the_metal : OnLayer
  the_metal = record { layer = layer; outline = outline }

  abbrev pub IsOpenMetal : Type 0
  IsOpenMetal =
      (metal : OnLayer) (r : RectModel) → Contains (the_metal ∷ []) metal → ((p : PointModel) → HasPoint r p ↔ HasPointOf metal.outline p)
      → IsClean design.library flat net metal.layer r

  pub open_is_clean : IsOpenMetal → IsClean design.library flat net layer rect
  open_is_clean is_open = is_open the_metal rect (0, omega arith, refl) points

  pub clean_is_open : IsClean design.library flat net layer rect → IsOpenMetal
  clean_is_open clean metal r there same = by there.0 there.1 there.2 where
    within : (m : OnLayer) → the_metal ≡ m → ((p : PointModel) → HasPoint r p ↔ HasPointOf m.outline p) → IsClean design.library flat net m.layer r
    within m is =
        let P : OnLayer → Type 0 = λ m. ((p : PointModel) → HasPoint r p ↔ HasPointOf m.outline p) → IsClean design.library flat net m.layer r in
        subst P is (λ all. clean_within design.library flat net layer rect r (λ p inside. (points p).1 ((all p).0 inside)) clean)

    by : (k : ℕ) → k < 1 → get_or (the_metal ∷ []) k metal ≡ metal → IsClean design.library flat net metal.layer r
    by zero below is = within metal is same
    by (suc k) below is = absurd (omega (arith, below))
