-- Metal is drawn as an obstruction of a component, as a rectangle of a blockage, as a shape of a terminal or as one of a wire.
use Rattle.std.proofs.Common.{◌≡◌, ℕ, ◌+◌, ◌⊎◌, inl, inr, List, length, map, slice_get, Contains, Option, None, Some, refl, sym, ap, ◌∙◌, subst, zero-add, add-zero, arith}
use Rattle.std.proofs.lemmas.List.Elements.{Contains-append_cases}
use Rattle.leg_lemmas.proofs.Places.{contains_at}
use Rattle.leg_lemmas.proofs.Contents.{Contains-nil}
use Rattle.leg_geom.specs.declared.place.Place.{Place}
use Rattle.leg_lib_records.specs.Records as library
use Rattle.leg_design_records.specs.declared.records.Component.{Component}
use Rattle.leg_design_records.specs.declared.records.Terminal.{Terminal}
use Rattle.leg_design_records.specs.declared.records.Terminal.TheVariants.{Comp, Pin}
use Rattle.leg_design_records.specs.declared.records.Wire as records
use Rattle.leg_design_records.specs.Records.{DesignModel, BlockageModel}
use Rattle.leg_design_records.specs.WellFormedNets.{HasNets}
use Rattle.leg_rules.specs.declared.owner.Owner.TheVariants.{Obs}
use Rattle.leg_rules.specs.declared.piece.Piece.TheVariants.{Wire}
use Rattle.leg_rules.specs.Metal.Nets.{number_of_special, terminals_of, wires_of, regular_entry, special_entry, entry_wires}
use Rattle.leg_rules.specs.Metal.Metal.{OnLayer, Metal, belonging, drawn, pins_metal, component_metal, components_metal, ports_outlines, design_pins_metal, blockage_metal, blockages_metal, wire_outlines, wires_metal, nets_metal, specials_metal, metal_parts, metal_of}
use Rattle.leg_rules.specs.Metal.Pieces.{IsOfTerminal, IsMetalOfPiece, of_piece}
use Rattle.leg_flat.specs.Sources.{IsOfComponentObstruction, of_obstruction, IsOfBlockage, of_blockage, of_terminal_shape}
use Rattle.leg_flat.proofs.AllNets.{special_of}
use Rattle.leg_flat.proofs.MetalWalks.{pin_metal, pins_walk, one_component, components_walk, design_pin_metal, design_pins_walk, rect_on, one_blockage, blockages_walk, wire_metal, wires_walk, net_metal, nets_walk, one_special, specials_walk}
use Rattle.leg_flat.proofs.ListPlaces.{comes, given, given_at}
use Rattle.leg_flat.proofs.Parts.{by_part}
use Rattle.leg_flat.proofs.PiecePlaces.{regular_wire, special_wire}

-- What holds of each obstruction of a component, of each rectangle of a blockage, of each shape of a terminal and of each shape of
-- a wire, holds of all metal.
module _ (design : DesignModel) (has : HasNets design) (Q : Metal → Type 0)
    (obstruction : (c : ℕ) (shape : OnLayer) → IsOfComponentObstruction design c shape → Q (of_obstruction c shape))
    (blockage : (k : ℕ) (shape : OnLayer) → IsOfBlockage design k shape → Q (of_blockage k shape))
    (terminal : (t : Terminal) (shape : OnLayer) → IsOfTerminal design t shape → Q (of_terminal_shape design t shape))
    (wire : (n w : ℕ) (shape : OnLayer) → IsMetalOfPiece design n (Wire w) shape → Q (of_piece n (length (terminals_of design n) + w) (Wire w) shape)) where
  of_pins : (c : ℕ) (component : Component) (place : Place) (master : library.MasterModel) (m : Metal) → slice_get design.components c ≡ Some component
      → component.place ≡ Some place → slice_get design.library.masters component.master ≡ Some master
      → Contains (pins_metal design c place master.size 0 master.pins) m → Q m
  of_pins c component place master m at placed is there =
      let it = given_at (pin_metal design c place master.size) master.pins _ m (pins_walk design c place master.size 0 master.pins) there in
      let from = comes _ (drawn place master.size it.x.shapes) m it.given in
      subst Q from.is (terminal (Comp c it.i) from.x (record {
        component = component;
        place = place;
        master = master;
        pin = it.x;
        has_component = at;
        has_place = placed;
        has_master = is;
        has_pin = it.there;
        draws = contains_at (drawn place master.size it.x.shapes) from.k from.x from.there;
      }))

  of_component : (c : ℕ) (component : Component) (m : Metal) → slice_get design.components c ≡ Some component
      → Contains (one_component design c component) m → Q m
  of_component c component m at there = by component.place refl (slice_get design.library.masters component.master) refl there where
    by : (place : Option Place) → component.place ≡ place → (master : Option library.MasterModel) → slice_get design.library.masters component.master ≡ master
        → Contains (component_metal design c place master) m → Q m
    by None placed None is there = absurd (Contains-nil m there)
    by None placed (Some master) is there = absurd (Contains-nil m there)
    by (Some place) placed None is there = absurd (Contains-nil m there)
    by (Some place) placed (Some master) is there =
        parts (Contains-append_cases (pins_metal design c place master.size 0 master.pins) obstructions m there) where
          obstructions : List Metal
          obstructions =
              belonging (record { owner = Obs c; component = Some c; piece = None }) (drawn place master.size master.obstructions)

          parts : Contains (pins_metal design c place master.size 0 master.pins) m ⊎ Contains obstructions m → Q m
          parts (inl pins) = of_pins c component place master m at placed is pins
          parts (inr others) =
              let from = comes _ (drawn place master.size master.obstructions) m others in
              subst Q from.is (obstruction c from.x (record {
                component = component;
                place = place;
                master = master;
                has_component = at;
                has_place = placed;
                has_master = is;
                draws = contains_at (drawn place master.size master.obstructions) from.k from.x from.there;
              }))

  of_components : (m : Metal) → Contains (components_metal design 0 design.components) m → Q m
  of_components m there =
      let it = given_at (one_component design) design.components _ m (components_walk design 0 design.components) there in
      of_component it.i it.x m it.there it.given

  of_design_pins : (m : Metal) → Contains (design_pins_metal design 0 design.pins) m → Q m
  of_design_pins m there =
      let it = given_at (design_pin_metal design) design.pins _ m (design_pins_walk design 0 design.pins) there in
      let from = comes _ (ports_outlines it.x.ports) m it.given in
      let shape = contains_at (ports_outlines it.x.ports) from.k from.x from.there in
      subst Q from.is (terminal (Pin it.i) from.x (it.x, it.there, shape))

  of_blockage_at : (k : ℕ) (said : BlockageModel) (m : Metal) → slice_get design.blockages k ≡ Some said → Contains (one_blockage k said) m → Q m
  of_blockage_at k said m at there = by said.layer refl there where
    by : (layer : Option ℕ) → said.layer ≡ layer → Contains (blockage_metal k layer said.rects) m → Q m
    by None is there = absurd (Contains-nil m there)
    by (Some layer) is there =
        let rects = map (rect_on layer) said.rects in
        let from = comes _ rects m there in
        let rect = comes (rect_on layer) said.rects from.x (contains_at rects from.k from.x from.there) in
        subst Q from.is (blockage k from.x (record {
          blockage = said;
          layer = layer;
          rect = rect.x;
          has_blockage = at;
          has_layer = is;
          has_rect = contains_at said.rects rect.k rect.x rect.there;
          is = sym rect.is;
        }))

  of_blockages : (m : Metal) → Contains (blockages_metal 0 design.blockages) m → Q m
  of_blockages m there =
      let it = given_at one_blockage design.blockages _ m (blockages_walk 0 design.blockages) there in
      of_blockage_at it.i it.x m it.there it.given

  of_wires : (n first piece : ℕ) (wires : List records.Wire) (m : Metal) → piece ≡ length (terminals_of design n) + first
      → ((i : ℕ) (one : records.Wire) → slice_get wires i ≡ Some one → slice_get (wires_of design n) (first + i) ≡ Some one)
      → Contains (wires_metal design n piece wires) m → Q m
  of_wires n first piece wires m from_piece stand there =
      let it = given (wire_metal design n) piece wires m (subst (λ ms. Contains ms m) (wires_walk design n piece wires) there) in
      let from = comes _ (wire_outlines design it.x) m it.given in
      let number : length (terminals_of design n) + (first + it.i) ≡ piece + it.i = omega (arith, from_piece) in
      let shape = contains_at (wire_outlines design it.x) from.k from.x from.there in
      subst Q from.is
      (subst (λ k. Q (of_piece n k (Wire (first + it.i)) from.x)) number
      (wire n (first + it.i) from.x (it.x, stand it.i it.x it.there, shape)))

  of_nets : (m : Metal) → Contains (nets_metal design 0 design.nets) m → Q m
  of_nets m there =
      let it = given_at (net_metal design) design.nets _ m (nets_walk design 0 design.nets) there in
      of_wires it.i 0 (length (terminals_of design it.i)) it.x.wires m (sym (add-zero (length (terminals_of design it.i))))
      (λ j one at. ap (slice_get (wires_of design it.i)) (zero-add j) ∙ regular_wire design it.i j one (rw it.there at)) it.given

  of_specials : (m : Metal) → Contains (specials_metal design 0 design.special) m → Q m
  of_specials m there =
      let it = given_at (one_special design) design.special _ m (specials_walk design 0 design.special) there in
      let n = number_of_special design it.i it.x in
      let entry : special_entry design n ≡ Some it.x = special_of design has it.i it.x it.there in
      of_wires n (length (entry_wires (regular_entry design n)))
      (length (terminals_of design n) + length (entry_wires (regular_entry design n))) it.x.wires m refl
      (λ j one at. special_wire design n j one (ap (λ o. slice_get (entry_wires o) j) entry ∙ at)) it.given

  pub each_metal : (m : Metal) → Contains (metal_of design) m → Q m
  unfolding metal_of
  each_metal m there =
      by_part (Q m) (metal_parts design) m (of_components m, (of_design_pins m, (of_blockages m, (of_nets m, (of_specials m, tt))))) there
