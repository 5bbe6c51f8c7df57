-- Wires that a DEF can spell can be drawn.
use Rattle.std.proofs.Common.{◌≡◌, ◌⊎◌, inl, inr, ℕ, ℤ, pos, negsuc, Bool, true, false, List, Option, None, Some, slice_get, IsTrue, refl, sym, arith}
use Rattle.std.specs.Ordering.{int_eq}
use Rattle.std.proofs.lemmas.Int.{ints}
use Rattle.leg_lemmas.proofs.Integers.{eq_from_test}
use Rattle.leg_lemmas.proofs.Places.{all_at}
use Rattle.leg_geom.specs.Plane.{PointModel, halfway}
use Rattle.leg_lib_records.specs.declared.records.LayerKind.{LayerKind}
use Rattle.leg_lib_records.specs.declared.records.LayerKind.TheVariants.{Routing, Cut, Other}
use Rattle.leg_lib_records.specs.declared.records.Layer.{Layer}
use Rattle.leg_lib_records.specs.Scale.{IsEven}
use Rattle.leg_lib_records.specs.Records.{LibraryModel, ViaModel}
use Rattle.leg_design_records.specs.declared.records.Wire.{Wire}
use Rattle.leg_design_records.specs.declared.records.Wire.TheVariants.{Segment, ViaAt, Patch}
use Rattle.leg_design_records.specs.Layers.{wire_width, width_of_layer}
use Rattle.leg_design_records.specs.Wires.{is_straight, default_extension, is_even}
use Rattle.leg_design_records.specs.WellFormedNets.{IsWireWidth, IsExtension, IsWire, written}
use Rattle.leg_lib_records.specs.Sound.{HasWidth, IsSoundLayer, IsSound}
use Rattle.leg_flat.specs.Steps.Bounds.{IsMetalReach, IsWidthWithin}
use Rattle.leg_flat.specs.Steps.AddedMetal.{IsWireWithin}
use Rattle.leg_flat.proofs.DrawnMetal.{drawn_of_area}

straight_line : (p q : PointModel) → IsTrue (is_straight p q) → (p.x ≡ q.x) ⊎ (p.y ≡ q.y)
straight_line p q is = by (int_eq p.x q.x) refl where
  by : (b : Bool) → int_eq p.x q.x ≡ b → (p.x ≡ q.x) ⊎ (p.y ≡ q.y)
  by true e = inl (eq_from_test p.x q.x e)
  by false e = inr (eq_from_test p.y q.y (rw e at is))

even_of_test : (z : ℤ) → IsTrue (is_even z) → IsEven z
even_of_test z is = (halfway (pos 0) z, sym (eq_from_test _ z is))

width_of_kind : (kind : LayerKind) (width : ℤ) → HasWidth kind → wire_width kind ≡ Some width → IsWidthWithin width
width_of_kind (Routing direction w) width has is =
    let same : w ≡ width = cc in
    rw (← same) (record { some = has.above; even = has.even; within = has.within })
width_of_kind Cut width has is = absurd (let e : ⊥ = cc in e)
width_of_kind Other width has is = absurd (let e : ⊥ = cc in e)

layer_width : (library : LibraryModel) (layer : ℕ) (width : ℤ) → IsSound library → width_of_layer library layer ≡ Some width → IsWidthWithin width
layer_width library layer width sound is = by (slice_get library.layers layer) refl where
  by : (o : Option Layer) → slice_get library.layers layer ≡ o → IsWidthWithin width
  by None none = absurd (let e : ⊥ = cc (rw none at is) in e)
  by (Some l) there = width_of_kind l.kind width (all_at IsSoundLayer library.layers layer l sound.layers there).width (rw there at is)

width_within : (library : LibraryModel) (special : Bool) (layer : ℕ) (width : ℤ) → IsSound library → IsWireWidth library special layer width
    → IsWidthWithin width
width_within library false layer width sound is = layer_width library layer width sound is
width_within library true layer width sound is = record { some = is.1; even = even_of_test width is.2; within = is.0 }

half_reach : (width : ℤ) → IsWidthWithin width → IsMetalReach (halfway (pos 0) width)
half_reach (pos a) is =
    let within = is.within in
    record { forth = omega (arith, ints); within = omega (arith, ints) }
half_reach (negsuc a) is = absurd (let some = is.some in let e : ⊥ = omega (arith, ints) in e)

default_reach : (library : LibraryModel) (special : Bool) (layer : ℕ) (width : ℤ) → IsSound library → IsWireWidth library special layer width
    → IsMetalReach (default_extension library (written special) layer)
unfolding default_extension
default_reach library false layer width sound is = rw is (half_reach width (layer_width library layer width sound is))
default_reach library true layer width sound is = record { forth = omega (arith, ints); within = omega arith }

reach_within : (library : LibraryModel) (special : Bool) (layer : ℕ) (width ext : ℤ) → IsSound library → IsWireWidth library special layer width
    → IsExtension library special layer ext → IsMetalReach ext
reach_within library special layer width ext sound is (inl given) = record { forth = given.1; within = given.0 }
reach_within library special layer width ext sound is (inr default) = rw default (default_reach library special layer width sound is)

-- a wire that a DEF can spell
pub wire_within : (library : LibraryModel) (vias : List ViaModel) (special : Bool) → IsSound library → (wire : Wire) → IsWire library vias special wire
    → IsWireWithin wire
wire_within library vias special sound (Segment layer from to width ext_from ext_to) is = record {
  begins = is.from_;
  ends = is.to_;
  line = record { straight = straight_line from to is.straight; long = is.long };
  wide = width_within library special layer width sound is.width_;
  before = reach_within library special layer width ext_from sound is.width_ is.from_extension;
  behind = reach_within library special layer width ext_to sound is.width_ is.to_extension;
}
wire_within library vias special sound (ViaAt number at) is = is.0
wire_within library vias special sound (Patch layer at rect) is = (is.2, drawn_of_area rect is.3)
