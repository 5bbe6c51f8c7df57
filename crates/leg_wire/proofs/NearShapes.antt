-- Where none of the shapes near a rectangle is close to it, none is.
use Rattle.std.proofs.Common.{◌≡◌, ℕ, zero, suc, ◌<◌, List, [], ◌∷◌, ◌++◌, length, map, Some, slice_get, All, Contains, refl, sym, ap, arith}
use Rattle.std.proofs.lemmas.List.{length-map}
use Rattle.std.proofs.lemmas.List.Elements.{All-contains, Contains-append_right}
use Rattle.std.proofs.lemmas.Option.{slice_get_read, slice_get_within}
use Rattle.leg_geom.specs.Plane.{RectModel}
use Rattle.leg_rules.specs.declared.shape.Shape.{Shape}
use Rattle.leg_sweep.specs.Near.{IsNear, AreNear}
use Rattle.leg_sweep.proofs.Lists.{Contains-here}
use Rattle.leg_rules.specs.Spacing.Closer.{AreCloserThan}
use Rattle.leg_wire_spacing.proofs.CloserShapes.{AreCloserThan-gaps}

-- the rectangles of shapes
abbrev pub rects_of : List Shape → List RectModel
rects_of shapes = map (λ shape. shape.rect) shapes

-- the shape of this number isn't closer than the distance
abbrev pub IsFarAt : List Shape → ℕ → Shape → ℕ → Type 0
IsFarAt shapes distance metal number = (shape : Shape) → slice_get shapes number ≡ Some shape → ¬ AreCloserThan distance metal shape

rect_at : (shapes : List Shape) (number : ℕ) (shape : Shape) → slice_get shapes number ≡ Some shape → slice_get (rects_of shapes) number ≡ Some shape.rect
rect_at [] number shape at = cc
rect_at (s ∷ shapes) zero shape at = let same : s ≡ shape = cc in rw same refl
rect_at (s ∷ shapes) (suc number) shape at = rect_at shapes number shape at

-- Where none of the shapes near the metal is closer than the distance, none is.
pub far_from_all : (shapes : List Shape) (distance : ℕ) (metal : Shape) (numbers : List ℕ) → AreNear (rects_of shapes) metal.rect distance numbers
    → All (IsFarAt shapes distance metal) numbers → (shape : Shape) → Contains shapes shape → ¬ AreCloserThan distance metal shape
far_from_all shapes distance metal numbers near far shape has close =
    let number = has.0 in
    let at : slice_get shapes number ≡ Some shape = slice_get_read shapes (length shapes) number shape refl has.1 (sym has.2) in
    let gaps = AreCloserThan-gaps distance metal shape close in
    let is_near : IsNear (rects_of shapes) metal.rect distance number = record {
      other = shape.rect;
      there = rect_at shapes number shape at;
      x = gaps.0;
      y = gaps.1;
    } in
    All-contains (IsFarAt shapes distance metal) numbers number far (near.all number is_near) shape at close

-- the shape that was read is the one of this number
pub far_at : (shapes : List Shape) (distance : ℕ) (metal : Shape) (number : ℕ) (shape : Shape) → slice_get shapes number ≡ Some shape
    → ¬ AreCloserThan distance metal shape → IsFarAt shapes distance metal number
far_at shapes distance metal number shape at far other there close =
    let same : other ≡ shape = cc in
    far (rw (← same) close)

-- The next of what is left is the number of a shape.
pub next_within : (shapes : List Shape) (rects : List RectModel) (rect : RectModel) (reach : ℕ) (all before left rest : List ℕ) (number : ℕ)
    → rects ≡ rects_of shapes → AreNear rects rect reach all → all ≡ before ++ left → left ≡ number ∷ rest → number < length shapes
next_within shapes rects rect reach all before left rest number are near is next =
    let has : Contains all number = rw (is, next) (Contains-append_right before (number ∷ rest) number (Contains-here number rest)) in
    let one : IsNear rects rect reach number = All-contains (IsNear rects rect reach) all number near.each has in
    let within = slice_get_within rects number one.other one.there in
    omega (arith, within, ap length are, length-map shapes (λ (shape : Shape). shape.rect))
