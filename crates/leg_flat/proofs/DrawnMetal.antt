-- What is known of the metal of a well-formed design under a sound library.
use Rattle.std.proofs.Common.{◌≡◌, ℕ, ◌*◌, ℤ, List, ◌++◌, Option, None, Some, slice_get, arith}
use Rattle.std.proofs.lemmas.List.Elements.{All-append, All-weaker}
use Rattle.leg_lemmas.proofs.Places.{all_at}
use Rattle.leg_lex.specs.declared.limits.TheConstants.{NUMBER_LIMIT}
use Rattle.leg_lex.specs.Number.{IsNumber}
use Rattle.leg_geom.specs.Plane.{RectModel}
use Rattle.leg_geom.specs.declared.place.Place.{Place}
use Rattle.leg_lib_records.specs.declared.records.Shape.{Shape}
use Rattle.leg_lib_records.specs.Records.{LibraryModel, ViaModel}
use Rattle.leg_design_records.specs.declared.records.Status.{Status}
use Rattle.leg_design_records.specs.declared.records.Status.TheVariants.{Unplaced, Placed, Fixed, Cover}
use Rattle.leg_design_records.specs.Records.{DesignModel, PortModel}
use Rattle.leg_design_records.specs.WellFormedParts.{IsPlaced, IsArea, IsMetalShape, IsDesignVia, IsPort}
use Rattle.leg_design_records.specs.WellFormed.{IsWellFormed}
use Rattle.leg_lib_records.specs.Sound.{AreWithin, AreShapesWithin, IsSoundVia, IsSound}
use Rattle.leg_flat.specs.Steps.Bounds.{IsSumWithin, IsDrawnWithin}
use Rattle.leg_flat.specs.Steps.AddedMetal.{AreDrawnWithin, IsPlaceWithin, IsPortWithin}

sum_of_number : (z : ℤ) → IsNumber z → IsSumWithin z
sum_of_number z n = omega (arith, n)

pub drawn_of_sums : (s : Shape) → AreWithin (2 * NUMBER_LIMIT) s.rect → IsDrawnWithin s.rect
drawn_of_sums s w = record { x1 = w.x1; y1 = w.y1; x2 = w.x2; y2 = w.y2 }

drawn_of_numbers : (s : Shape) → AreWithin NUMBER_LIMIT s.rect → IsDrawnWithin s.rect
drawn_of_numbers s w = record { x1 = omega arith; y1 = omega arith; x2 = omega arith; y2 = omega arith }

pub drawn_of_area : (r : RectModel) → IsArea r → IsDrawnWithin r
drawn_of_area r a = record {
  x1 = sum_of_number r.x1 a.x1;
  y1 = sum_of_number r.y1 a.y1;
  x2 = sum_of_number r.x2 a.x2;
  y2 = sum_of_number r.y2 a.y2;
}

drawn_of_metal : (library : LibraryModel) (s : Shape) → IsMetalShape library s → IsDrawnWithin s.rect
drawn_of_metal library s m = drawn_of_area s.rect m.rect

-- shapes of a macro
pub master_drawn : (shapes : List Shape) → AreShapesWithin (2 * NUMBER_LIMIT) shapes → AreDrawnWithin shapes
master_drawn shapes all = All-weaker (λ s. AreWithin (2 * NUMBER_LIMIT) s.rect) (λ s. IsDrawnWithin s.rect) drawn_of_sums shapes all

library_via_drawn : (via : ViaModel) → IsSoundVia via → AreDrawnWithin via.shapes
library_via_drawn via all = All-weaker (λ s. AreWithin NUMBER_LIMIT s.rect) (λ s. IsDrawnWithin s.rect) drawn_of_numbers via.shapes all

design_via_drawn : (library : LibraryModel) (via : ViaModel) → IsDesignVia library via → AreDrawnWithin via.shapes
design_via_drawn library via is = All-weaker (IsMetalShape library) (λ s. IsDrawnWithin s.rect) (drawn_of_metal library) via.shapes is.shapes

-- shapes of a via, of the library or of the design
pub via_drawn : (design : DesignModel) (number : ℕ) (via : ViaModel) → IsSound design.library → IsWellFormed design
    → slice_get (design.library.vias ++ design.vias) number ≡ Some via → AreDrawnWithin via.shapes
via_drawn design number via sound proper is =
    let drawn = λ (v : ViaModel). AreDrawnWithin v.shapes in
    all_at drawn (design.library.vias ++ design.vias) number via
    (All-append drawn design.library.vias design.vias
    (All-weaker IsSoundVia drawn library_via_drawn design.library.vias sound.vias)
    (All-weaker (IsDesignVia design.library) drawn (design_via_drawn design.library) design.vias proper.vias.each))
    is

pub placed_within : (status : Status) (place : Option Place) → IsPlaced status place → IsPlaceWithin place
placed_within status None is = tt
placed_within Unplaced (Some place) is = absurd is
placed_within Placed (Some place) is = is
placed_within Fixed (Some place) is = is
placed_within Cover (Some place) is = is

pub port_within : (library : LibraryModel) (port : PortModel) → IsPort library port → IsPortWithin port
port_within library port is = record {
  place = placed_within port.status port.place is.placed;
  shapes = All-weaker (IsMetalShape library) (λ s. IsDrawnWithin s.rect) (drawn_of_metal library) port.shapes is.shapes;
}
