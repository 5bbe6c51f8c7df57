-- The metal of a design has as many shapes as are drawn.
use Rattle.std.proofs.Common.{◌≡◌, ℕ, suc, ◌+◌, List, [], ◌∷◌, length, map, sum_by, Option, None, Some, slice_get, refl, sym, ap, ◌∙◌, length-append, arith}
use Rattle.std.proofs.lemmas.List.{length-map}
use Rattle.std.proofs.lemmas.List.Sums.{sum_by-cons}
use Rattle.leg_geom.specs.Plane.{RectModel}
use Rattle.leg_geom.specs.declared.place.Place.{Place}
use Rattle.leg_lib_records.specs.Records as library
use Rattle.leg_lib_records.specs.declared.records.Shape.{Shape}
use Rattle.leg_design_records.specs.declared.records.Terminal.TheVariants.{Pin}
use Rattle.leg_design_records.specs.Records.{DesignModel, PinModel, NetModel}
use Rattle.leg_rules.specs.declared.owner.Owner.TheVariants.{Obs, Blocking}
use Rattle.leg_rules.specs.Metal.Nets.{number_of_special, terminals_of, entry_wires, regular_entry}
use Rattle.leg_rules.specs.Metal.Metal.{Belonging, belonging, drawn, of_terminal, pins_metal, component_metal, components_metal, port_outlines, ports_outlines, design_pins_metal, blockage_metal, blockages_metal, wire_outlines, wires_metal, nets_metal, specials_metal, metal_parts, metal_of}
use Rattle.leg_flat.specs.Sources.{component_shape_count, component_shapes, port_shape_count, pin_shapes, blockage_shape_count, blockage_shapes, wire_shapes, shape_count}
use Rattle.leg_flat.proofs.MoreMetal.{walk}
use Rattle.leg_flat.proofs.MetalWalks.{pin_metal, pins_walk, one_component, components_walk, port_drawn, ports_drawn_walk, design_pin_metal, design_pins_walk, rect_on, one_blockage, blockages_walk, wire_metal, wires_walk, net_metal, nets_walk, one_special, specials_walk}
use Rattle.leg_flat.proofs.Counts.{belonging_length, drawn_length}
use Rattle.leg_flat.proofs.Parts.{whole_length}

-- a walk gives as much as its elements give
walk_length : {X Y : Type 0} (f : ℕ → X → List Y) (size : X → ℕ) → ((k : ℕ) (x : X) → length (f k x) ≡ size x) → (k : ℕ) (xs : List X)
    → length (walk f k xs) ≡ sum_by size xs
walk_length f size is k [] = refl
walk_length f size is k (x ∷ xs) =
    let first = is k x in
    let rest = walk_length f size is (suc k) xs in
    let both : length (f k x) + length (walk f (suc k) xs) ≡ size x + sum_by size xs = omega (arith, first, rest) in
    length-append (f k x) (walk f (suc k) xs) ∙ both ∙ sym (sum_by-cons size x xs)

walked : {X Y : Type 0} (f : ℕ → X → List Y) (size : X → ℕ) (metal : List Y) (k : ℕ) (xs : List X) → metal ≡ walk f k xs
    → ((k : ℕ) (x : X) → length (f k x) ≡ size x) → length metal ≡ sum_by size xs
walked f size metal k xs is each = ap length is ∙ walk_length f size each k xs

module _ (design : DesignModel) where
  component_count : (c : ℕ) (place : Option Place) (master : Option library.MasterModel)
      → length (component_metal design c place master) ≡ component_shape_count place master
  component_count c None None = refl
  component_count c None (Some master) = refl
  component_count c (Some place) None = refl
  component_count c (Some place) (Some master) =
      let pins : length (pins_metal design c place master.size 0 master.pins) ≡ sum_by (λ pin. length pin.shapes) master.pins =
      walked (pin_metal design c place master.size) (λ pin. length pin.shapes) _ 0 master.pins (pins_walk design c place master.size 0 master.pins)
      (λ k pin. drawn_length (of_terminal design (Some c) _) place master.size pin.shapes) in
      let belongs : Belonging = record { owner = Obs c; component = Some c; piece = None } in
      let obstructions = drawn_length belongs place master.size master.obstructions in
      length-append (pins_metal design c place master.size 0 master.pins) (belonging belongs (drawn place master.size master.obstructions))
      ∙ (let e : length (pins_metal design c place master.size 0 master.pins) + length
      (belonging belongs (drawn place master.size master.obstructions)) ≡ sum_by (λ pin. length pin.shapes) master.pins + length master.obstructions =
      omega (arith, pins, obstructions) in e)

  components_count : length (components_metal design 0 design.components) ≡ sum_by (component_shapes design) design.components
  components_count =
      walked (one_component design) (component_shapes design) _ 0 design.components (components_walk design 0 design.components)
      (λ c component. component_count c component.place (slice_get design.library.masters component.master))

  wires_count : (n piece : ℕ) (net : NetModel) → length (wires_metal design n piece net.wires) ≡ wire_shapes design net
  wires_count n piece net =
      walked (wire_metal design n) (λ wire. length (wire_outlines design wire)) _ piece net.wires (wires_walk design n piece net.wires)
      (λ k wire. belonging_length _ (wire_outlines design wire))

  nets_count : length (nets_metal design 0 design.nets) ≡ sum_by (wire_shapes design) design.nets
  nets_count =
      walked (net_metal design) (wire_shapes design) _ 0 design.nets (nets_walk design 0 design.nets)
      (λ n net. wires_count n (length (terminals_of design n)) net)

  specials_count : length (specials_metal design 0 design.special) ≡ sum_by (wire_shapes design) design.special
  specials_count =
      walked (one_special design) (wire_shapes design) _ 0 design.special (specials_walk design 0 design.special)
      (λ k net. wires_count (number_of_special design k net)
      (length (terminals_of design (number_of_special design k net)) + length (entry_wires (regular_entry design (number_of_special design k net)))) net)

port_count : (place : Option Place) (shapes : List Shape) → length (port_outlines place shapes) ≡ port_shape_count place (length shapes)
port_count None shapes = refl
port_count (Some place) shapes = port_shapes_count place shapes where
  port_shapes_count : (place : Place) (shapes : List Shape) → length (port_outlines (Some place) shapes) ≡ length shapes
  port_shapes_count place [] = refl
  port_shapes_count place (shape ∷ shapes) = ap suc (port_shapes_count place shapes)

pin_count : (pin : PinModel) → length (ports_outlines pin.ports) ≡ pin_shapes pin
pin_count pin =
    walked port_drawn (λ port. port_shape_count port.place (length port.shapes)) _ 0 pin.ports (ports_drawn_walk 0 pin.ports)
    (λ k port. port_count port.place port.shapes)

pins_count : (design : DesignModel) → length (design_pins_metal design 0 design.pins) ≡ sum_by pin_shapes design.pins
pins_count design =
    walked (design_pin_metal design) pin_shapes _ 0 design.pins (design_pins_walk design 0 design.pins)
    (λ p pin. belonging_length (of_terminal design None (Pin p)) (ports_outlines pin.ports) ∙ pin_count pin)

pub blockage_count : (k : ℕ) (layer : Option ℕ) (rects : List RectModel) → length (blockage_metal k layer rects) ≡ blockage_shape_count layer (length rects)
blockage_count k None rects = refl
blockage_count k (Some layer) rects =
    let belongs : Belonging = record { owner = Blocking k; component = None; piece = None } in
    belonging_length belongs (map (rect_on layer) rects) ∙ length-map rects (rect_on layer)

blockages_count : (design : DesignModel) → length (blockages_metal 0 design.blockages) ≡ sum_by blockage_shapes design.blockages
blockages_count design =
    walked one_blockage blockage_shapes _ 0 design.blockages (blockages_walk 0 design.blockages)
    (λ k blockage. blockage_count k blockage.layer blockage.rects)

pub metal_count : (design : DesignModel) → length (metal_of design) ≡ shape_count design
unfolding metal_of
metal_count design =
    omega (
      arith,
      whole_length (metal_parts design),
      components_count design,
      pins_count design,
      blockages_count design,
      nets_count design,
      specials_count design,
    )
