-- What is known of the shapes of a well-formed design's terminals: they can be drawn.
use Rattle.std.proofs.Common.{◌≡◌, ℕ, ◌*◌, ◌<◌, nat_lt, true, refl, length, List, Option, Some, get_or, slice_get, arith}
use Rattle.std.proofs.lemmas.Bool.Decides.{nat_tests}
use Rattle.std.proofs.lemmas.Option.{slice_get_read}
use Rattle.std.proofs.lemmas.List.Elements.{All-weaker}
use Rattle.leg_lemmas.proofs.Places.{all_at}
use Rattle.leg_lex.specs.declared.limits.TheConstants.{NUMBER_LIMIT}
use Rattle.leg_geom.specs.declared.place.Place.{Place}
use Rattle.leg_lib_records.specs.Records.{LibraryModel, MasterModel, MasterPinModel}
use Rattle.leg_lib_records.specs.Sound.{AreWithin, AreShapesWithin, IsSoundMaster, IsSound}
use Rattle.leg_design_records.specs.declared.records.Component.{Component}
use Rattle.leg_design_records.specs.Records.{DesignModel}
use Rattle.leg_design_records.specs.WellFormedParts.{IsPosition, IsComponent}
use Rattle.leg_design_records.specs.WellFormed.{IsWellFormed}
use Rattle.leg_flat.specs.Steps.Bounds.{IsDrawnWithin}
use Rattle.leg_flat.specs.Steps.AddedMetal.{AreDrawnWithin, IsPlaceWithin}
use Rattle.leg_flat.proofs.DrawnMetal.{drawn_of_sums, placed_within}

position : (o : Option Place) (place : Place) → o ≡ Some place → IsPlaceWithin o → IsPosition place.at
position o place is within = let at = rw is at within in at

-- the place of a component
pub component_position : (design : DesignModel) (c : ℕ) (component : Component) (place : Place) → IsWellFormed design
    → slice_get design.components c ≡ Some component → component.place ≡ Some place → IsPosition place.at
component_position design c component place proper there stands =
    let known = all_at (IsComponent design.library) design.components c component proper.components.each there in
    position component.place place stands (placed_within component.status component.place known.placed)

-- the shapes of a macro's pin
pub pin_within : (library : LibraryModel) (m k : ℕ) (master : MasterModel) (pin : MasterPinModel) → IsSound library
    → slice_get library.masters m ≡ Some master → slice_get master.pins k ≡ Some pin → AreDrawnWithin pin.shapes
pin_within library m k master pin sound made there =
    let known = all_at IsSoundMaster library.masters m master sound.masters made in
    let shapes = all_at (λ (p : MasterPinModel). AreShapesWithin (2 * NUMBER_LIMIT) p.shapes) master.pins k pin known.pins there in
    All-weaker (λ s. AreWithin (2 * NUMBER_LIMIT) s.rect) (λ s. IsDrawnWithin s.rect) drawn_of_sums pin.shapes shapes

-- what a lookup finds stands at its place
pub looked_up : {X : Type 0} (items xs : List X) (i : ℕ) (x : X) → items ≡ xs → true ≡ nat_lt i (length items) → x ≡ get_or items i x → slice_get xs i ≡ Some x
looked_up items xs i x same test is =
    let less : i < length items = grind (arith, nat_tests) in
    rw (← same) (slice_get_read items (length items) i x refl less is)
