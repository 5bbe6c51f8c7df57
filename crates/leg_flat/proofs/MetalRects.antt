-- Each piece of the metal of a design is a rectangle.
use Rattle.std.proofs.Common.{◌≡◌, ℕ, suc, Bool, true, false, List, [], ◌∷◌, ◌++◌, map, Option, None, Some, slice_get, All, refl}
use Rattle.std.proofs.lemmas.List.Elements.{All-nil, All-cons, All-head, All-tail, All-same, All-append, All-map, All-weaker}
use Rattle.leg_lemmas.proofs.Places.{all_at}
use Rattle.leg_lex.specs.Number.{IsNumber}
use Rattle.leg_geom.specs.Plane.{PointModel, RectModel}
use Rattle.leg_geom.specs.declared.place.Place.{Place}
use Rattle.leg_lib_records.specs.declared.records.Shape.{Shape}
use Rattle.leg_lib_records.specs.Measure.{ExtentModel, IsProper}
use Rattle.leg_lib_records.specs.Records.{LibraryModel, ViaModel, MasterPinModel, MasterModel}
use Rattle.leg_lib_records.specs.Sound.{IsSoundMaster, IsSound}
use Rattle.leg_design_records.specs.declared.records.Wire.{Wire}
use Rattle.leg_design_records.specs.declared.records.Wire.TheVariants.{Segment, ViaAt, Patch}
use Rattle.leg_design_records.specs.Records.{DesignModel, PortModel, PinModel}
use Rattle.leg_design_records.specs.WellFormedParts.{IsPosition, IsArea, IsComponent, IsMetalShape, IsDesignVia, IsPort, IsPin, IsBlockage}
use Rattle.leg_design_records.specs.WellFormedNets.{IsWire, IsNet}
use Rattle.leg_design_records.specs.WellFormed.{IsWellFormed}
use Rattle.leg_rules.specs.Metal.Nets.{number_of_special}
use Rattle.leg_rules.specs.Metal.Outline.Outline.{Shifted}
use Rattle.leg_rules.specs.Metal.Metal.{OnLayer, Belonging, Metal, belonging, drawn, no_size, master_metal, component_metal, components_metal, port_outlines, design_pins_metal, blockage_metal, blockages_metal, via_outlines, wire_outlines, wires_metal, nets_metal, specials_metal, metal_parts, metal_of}
use Rattle.leg_flat.specs.ProperLibrary.{AreProperShapes, IsProperMaster, IsProperLibrary}
use Rattle.leg_flat.specs.Steps.AddedMetal.{AreDrawnWithin, IsPlaceWithin}
use Rattle.leg_flat.proofs.MoreMetal.{walk}
use Rattle.leg_flat.proofs.Parts.{all_parts}
use Rattle.leg_flat.proofs.MetalWalks.{pin_metal, pins_walk, one_component, components_walk, design_pin_metal, design_pins_walk, one_blockage, blockages_walk, wire_metal, wires_walk, net_metal, nets_walk, one_special, specials_walk, port_drawn, ports_drawn_walk}
use Rattle.leg_flat.proofs.DrawnMetal.{master_drawn, via_drawn, placed_within, port_within, drawn_of_area}
use Rattle.leg_flat.proofs.MetalLines.{wire_within}
use Rattle.leg_flat.proofs.OutlineRects.{HasRect, ArePlacedImages, IsBox, zero_number, line_has, drawn_has, shifted_has, rectangle_has}

-- metal that is a rectangle
abbrev pub IsRectOn : OnLayer → Type 0
IsRectOn metal = HasRect metal.outline

abbrev pub IsRectMetal : Metal → Type 0
IsRectMetal metal = IsRectOn metal.metal

-- rectangles that have area, and that a place or a point can move
abbrev AreBoxes : List Shape → Type 0
AreBoxes shapes = All (λ shape. IsBox shape.rect) shapes

are_boxes : (shapes : List Shape) → AreDrawnWithin shapes → AreProperShapes shapes → AreBoxes shapes
are_boxes shapes within proper = λ k d less. record { within = within k d less; proper = proper k d less }

-- what the elements of a list give, one after another
All-walk : {X Y : Type 0} (Q : X → Type 0) (P : Y → Type 0) (f : ℕ → X → List Y) → ((k : ℕ) (x : X) → Q x → All P (f k x)) → (k : ℕ) (xs : List X) → All Q xs
    → All P (walk f k xs)
All-walk Q P f each k [] all = All-nil P
All-walk Q P f each k (x ∷ xs) all =
    All-append P (f k x) (walk f (suc k) xs) (each k x (All-head Q x xs all)) (All-walk Q P f each (suc k) xs (All-tail Q x xs all))

belonging_rects : (belongs : Belonging) (outlines : List OnLayer) → All IsRectOn outlines → All IsRectMetal (belonging belongs outlines)
belonging_rects belongs outlines all = All-map IsRectMetal _ outlines all

one_rect : (metal : OnLayer) → IsRectOn metal → All IsRectOn (metal ∷ [])
one_rect metal is = All-cons IsRectOn metal [] is (All-nil IsRectOn)

-- a macro that can be drawn
record IsMasterOfBoxes (master : MasterModel) : Type 0 where
  pub sound : IsSoundMaster master
  pub proper : IsProperMaster master

metal_proper : (library : LibraryModel) (shapes : List Shape) → All (IsMetalShape library) shapes → AreProperShapes shapes
metal_proper library shapes all = All-weaker (IsMetalShape library) (λ s. IsProper s.rect) (λ s is. is.rect.proper) shapes all

blockage_rects : (k : ℕ) (layer : Option ℕ) (rects : List RectModel) → All IsArea rects → All IsRectMetal (blockage_metal k layer rects)
blockage_rects k None rects are = All-nil IsRectMetal
blockage_rects k (Some layer) rects are =
    belonging_rects _ _ (All-map IsRectOn _ rects (All-weaker IsArea _ (λ r is. rectangle_has r is) rects are))

module _ (images : ArePlacedImages) where
  drawn_rects : (place : Place) (size : ExtentModel) (shapes : List Shape) → IsPosition place.at → IsNumber size.width → IsNumber size.height
      → AreBoxes shapes → All IsRectOn (drawn place size shapes)
  drawn_rects place size shapes there wide high boxes =
      All-map IsRectOn _ shapes (All-weaker (λ (s : Shape). IsBox s.rect) _ (λ s is. drawn_has images place size s.rect there wide high is) shapes boxes)

  shifted_rects : (at : PointModel) (shapes : List Shape) → IsPosition at → AreBoxes shapes
      → All IsRectOn (map (λ s. record { layer = s.layer; outline = Shifted at s.rect }) shapes)
  shifted_rects at shapes there boxes =
      All-map IsRectOn _ shapes (All-weaker (λ (s : Shape). IsBox s.rect) _ (λ s is. shifted_has images at s.rect there is) shapes boxes)

  pins_rects : (design : DesignModel) (c : ℕ) (place : Place) (master : MasterModel) → IsPosition place.at → IsMasterOfBoxes master
      → All IsRectMetal (walk (pin_metal design c place master.size) 0 master.pins)
  pins_rects design c place master there is =
      All-walk (λ (pin : MasterPinModel). AreBoxes pin.shapes) IsRectMetal (pin_metal design c place master.size)
      (λ k pin boxes. belonging_rects _ _ (drawn_rects place master.size pin.shapes there is.proper.size.width is.proper.size.height boxes))
      0 master.pins
      (λ k d less. are_boxes _ (master_drawn _ (is.sound.pins k d less)) (is.proper.pins k d less))

  master_rects : (design : DesignModel) (c : ℕ) (place : Place) (master : MasterModel) → IsPosition place.at → IsMasterOfBoxes master
      → All IsRectMetal (master_metal design c place master)
  master_rects design c place master there is =
      let obstructions = are_boxes master.obstructions (master_drawn master.obstructions is.sound.obstructions) is.proper.obstructions in
      All-append IsRectMetal _ _
      (All-same IsRectMetal _ _ (pins_walk design c place master.size 0 master.pins) (pins_rects design c place master there is))
      (belonging_rects _ _ (drawn_rects place master.size master.obstructions there is.proper.size.width is.proper.size.height obstructions))

  component_rects : (design : DesignModel) (c : ℕ) (place : Option Place) (master : Option MasterModel) → IsPlaceWithin place
      → ((m : MasterModel) → master ≡ Some m → IsMasterOfBoxes m) → All IsRectMetal (component_metal design c place master)
  component_rects design c None None there known = All-nil IsRectMetal
  component_rects design c None (Some m) there known = All-nil IsRectMetal
  component_rects design c (Some place) None there known = All-nil IsRectMetal
  component_rects design c (Some place) (Some m) there known = master_rects design c place m there (known m refl)

  port_rects : (place : Option Place) (shapes : List Shape) → IsPlaceWithin place → AreBoxes shapes → All IsRectOn (port_outlines place shapes)
  port_rects None shapes there boxes = All-nil IsRectOn
  port_rects (Some place) shapes there boxes = drawn_rects place no_size shapes there zero_number zero_number boxes

  via_rects : (via : Option ViaModel) (number : ℕ) (at : PointModel) → IsPosition at → ((v : ViaModel) → via ≡ Some v → AreBoxes v.shapes)
      → All IsRectOn (via_outlines via (ViaAt number at))
  via_rects None number at there known = All-nil IsRectOn
  via_rects (Some v) number at there known = shifted_rects at v.shapes there (known v refl)

  module _ (design : DesignModel) (sound : IsSound design.library) (proper : IsProperLibrary design.library) (well : IsWellFormed design) where
    master_of_boxes : (number : ℕ) (master : MasterModel) → slice_get design.library.masters number ≡ Some master → IsMasterOfBoxes master
    master_of_boxes number master there = record {
      sound = all_at IsSoundMaster design.library.masters number master sound.masters there;
      proper = all_at IsProperMaster design.library.masters number master proper.masters there;
    }

    components_rects : All IsRectMetal (components_metal design 0 design.components)
    components_rects =
        All-same IsRectMetal _ _ (components_walk design 0 design.components)
        (All-walk (IsComponent design.library) IsRectMetal (one_component design)
        (λ c component is. component_rects design c component.place (slice_get design.library.masters component.master)
        (placed_within component.status component.place is.placed) (master_of_boxes component.master))
        0 design.components well.components.each)

    one_port_rects : (port : PortModel) → IsPort design.library port → All IsRectOn (port_outlines port.place port.shapes)
    one_port_rects port is =
        let known = port_within design.library port is in
        port_rects port.place port.shapes known.place (are_boxes port.shapes known.shapes (metal_proper design.library port.shapes is.shapes))

    one_pin_rects : (p : ℕ) (pin : PinModel) → IsPin design.library pin → All IsRectMetal (design_pin_metal design p pin)
    one_pin_rects p pin is =
        belonging_rects _ _
        (All-same IsRectOn _ _ (ports_drawn_walk 0 pin.ports)
        (All-walk (IsPort design.library) IsRectOn port_drawn (λ k port of. one_port_rects port of) 0 pin.ports is.ports))

    pins_are_rects : All IsRectMetal (design_pins_metal design 0 design.pins)
    pins_are_rects =
        All-same IsRectMetal _ _ (design_pins_walk design 0 design.pins)
        (All-walk (IsPin design.library) IsRectMetal (design_pin_metal design) one_pin_rects 0 design.pins well.pins.each)

    blockages_rects : All IsRectMetal (blockages_metal 0 design.blockages)
    blockages_rects =
        All-same IsRectMetal _ _ (blockages_walk 0 design.blockages)
        (All-walk (IsBlockage design.library) IsRectMetal one_blockage
        (λ k blockage is. blockage_rects k blockage.layer blockage.rects is.rects)
        0 design.blockages well.blockages.each)

    -- shapes of a via, of the library or of the design
    via_proper : (number : ℕ) (via : ViaModel) → slice_get (design.library.vias ++ design.vias) number ≡ Some via → AreProperShapes via.shapes
    via_proper number via there =
        let are = λ (v : ViaModel). AreProperShapes v.shapes in
        all_at are (design.library.vias ++ design.vias) number via
        (All-append are design.library.vias design.vias proper.vias
        (All-weaker (IsDesignVia design.library) are (λ v is. metal_proper design.library v.shapes is.shapes) design.vias well.vias.each))
        there

    wire_rects : (special : Bool) (wire : Wire) → IsWire design.library design.vias special wire → All IsRectOn (wire_outlines design wire)
    wire_rects special (Segment layer from to width ext_from ext_to) is =
        one_rect _ (line_has from to width ext_from ext_to
        (wire_within design.library design.vias special sound (Segment layer from to width ext_from ext_to) is))
    wire_rects special (ViaAt number at) is =
        via_rects (slice_get (design.library.vias ++ design.vias) number) number at is.0
        (λ v there. are_boxes v.shapes (via_drawn design number v sound well there) (via_proper number v there))
    wire_rects special (Patch layer at rect) is =
        one_rect _ (shifted_has images at rect is.2 (record { within = drawn_of_area rect is.3; proper = is.3.proper }))

    wires_rects : (special : Bool) (n piece : ℕ) (wires : List Wire) → All (IsWire design.library design.vias special) wires
        → All IsRectMetal (wires_metal design n piece wires)
    wires_rects special n piece wires each =
        All-same IsRectMetal _ _ (wires_walk design n piece wires)
        (All-walk (IsWire design.library design.vias special) IsRectMetal (wire_metal design n)
        (λ k wire is. belonging_rects _ _ (wire_rects special wire is)) piece wires each)

    nets_rects : All IsRectMetal (nets_metal design 0 design.nets)
    nets_rects =
        All-same IsRectMetal _ _ (nets_walk design 0 design.nets)
        (All-walk (IsNet design false) IsRectMetal (net_metal design) (λ n net is. wires_rects false n _ net.wires is.wires) 0 design.nets well.nets.nets.each)

    specials_rects : All IsRectMetal (specials_metal design 0 design.special)
    specials_rects =
        All-same IsRectMetal _ _ (specials_walk design 0 design.special)
        (All-walk (IsNet design true) IsRectMetal (one_special design)
        (λ k net is. wires_rects true (number_of_special design k net) _ net.wires is.wires) 0 design.special well.nets.special.each)

    pub metal_rects : All IsRectMetal (metal_of design)
    unfolding metal_of
    metal_rects =
        all_parts IsRectMetal (metal_parts design) (components_rects, (pins_are_rects, (blockages_rects, (nets_rects, (specials_rects, tt)))))
