-- Each shape of a piece is metal with the numbers of its net and of the piece.
use Rattle.std.proofs.Common.{◌≡◌, ℕ, ◌+◌, ◌⊎◌, inl, inr, List, ◌++◌, length, map, slice_get, Contains, Option, None, Some, refl, sym, ap, ◌∙◌, subst, arith}
use Rattle.std.proofs.lemmas.List.Elements.{Contains-append_left, Contains-append_right}
use Rattle.leg_lemmas.proofs.Places.{contains_at, InSecond}
use Rattle.leg_lemmas.proofs.Contents.{Contains-map}
use Rattle.leg_design_records.specs.declared.records.Terminal.{Terminal}
use Rattle.leg_design_records.specs.declared.records.Terminal.TheVariants.{Comp, Pin}
use Rattle.leg_design_records.specs.declared.records.Wire as records
use Rattle.leg_design_records.specs.Records.{DesignModel, NetModel}
use Rattle.leg_design_records.specs.WellFormed.{IsWellFormed}
use Rattle.leg_design_records.specs.WellFormedNets.{HasNets}
use Rattle.leg_design_records.proofs.SameTerminal.{among_from}
use Rattle.leg_rules.specs.declared.owner.Owner.TheVariants.{Net, Obs, Blocking}
use Rattle.leg_rules.specs.declared.piece.Piece.{Piece}
use Rattle.leg_rules.specs.declared.piece.Piece.TheVariants.{Term, Wire}
use Rattle.leg_rules.specs.Metal.Nets.{terminals_of, pieces_of, regular_entry, special_entry, entry_wires}
use Rattle.leg_rules.specs.Metal.Owner.{net_of, owner_of, piece_of}
use Rattle.leg_rules.specs.Metal.Metal.{OnLayer, Belonging, Metal, belonging, drawn, of_terminal, pins_metal, components_metal, ports_outlines, design_pins_metal, blockages_metal, wire_outlines, wires_metal, nets_metal, specials_metal, metal_parts, metal_of}
use Rattle.leg_rules.specs.Metal.Pieces.{IsOfTerminal, IsMetalOfPiece, terminal_component, of_piece}
use Rattle.leg_flat.specs.Sources.{IsOfComponentObstruction, of_obstruction, IsOfBlockage, of_blockage}
use Rattle.leg_flat.proofs.NetTerminals.{special_is}
use Rattle.leg_flat.proofs.NetPlaces.{in_net}
use Rattle.leg_flat.proofs.MetalWalks.{pin_metal, pins_walk, one_component, components_walk, design_pin_metal, design_pins_walk, rect_on, one_blockage, blockages_walk, wire_metal, wires_walk, net_metal, nets_walk, one_special, specials_walk}
use Rattle.leg_flat.proofs.ListPlaces.{gives, gives_at}
use Rattle.leg_flat.proofs.Parts.{from_part}
use Rattle.leg_flat.proofs.PiecePlaces.{IsTerminalPiece, IsWirePiece, piece_cases, wire_cases}
use Rattle.leg_flat.proofs.TerminalsOnce.{place_is}

abbrev with_belonging : Belonging → OnLayer → Metal
with_belonging belongs m = record { metal = m; belongs = belongs }

-- the metal of each part of a design is its metal
module _ (design : DesignModel) (m : Metal) where
  from_components : Contains (components_metal design 0 design.components) m → Contains (metal_of design) m
  unfolding metal_of
  from_components c = from_part (metal_parts design) 0 _ m refl c

  from_pins : Contains (design_pins_metal design 0 design.pins) m → Contains (metal_of design) m
  unfolding metal_of
  from_pins c = from_part (metal_parts design) 1 _ m refl c

  from_blockages : Contains (blockages_metal 0 design.blockages) m → Contains (metal_of design) m
  unfolding metal_of
  from_blockages c = from_part (metal_parts design) 2 _ m refl c

  from_nets : Contains (nets_metal design 0 design.nets) m → Contains (metal_of design) m
  unfolding metal_of
  from_nets c = from_part (metal_parts design) 3 _ m refl c

  from_specials : Contains (specials_metal design 0 design.special) m → Contains (metal_of design) m
  unfolding metal_of
  from_specials c = from_part (metal_parts design) 4 _ m refl c

module _ (design : DesignModel) where
  -- a terminal's shapes are metal
  pub terminal_metal : (t : Terminal) (metal : OnLayer) → IsOfTerminal design t metal
      → Contains (metal_of design) (record { metal = metal; belongs = of_terminal design (terminal_component t) t })
  terminal_metal (Comp c k) metal is =
      let belongs = of_terminal design (Some c) (Comp c k) in
      let m = with_belonging belongs metal in
      let shapes = drawn is.place is.master.size is.pin.shapes in
      let obstructions = belonging (record { owner = Obs c; component = Some c; piece = None }) (drawn is.place is.master.size is.master.obstructions) in
      let pin : Contains (belonging belongs shapes) m = Contains-map (with_belonging belongs) shapes metal is.draws in
      let pins : Contains (pins_metal design c is.place is.master.size 0 is.master.pins) m =
      gives_at (pin_metal design c is.place is.master.size) is.master.pins _ k is.pin m
      (pins_walk design c is.place is.master.size 0 is.master.pins) is.has_pin pin in
      let whole : Contains (pins_metal design c is.place is.master.size 0 is.master.pins ++ obstructions) m = Contains-append_left _ obstructions m pins in
      let component : Contains (one_component design c is.component) m = rw (is.has_place, is.has_master) whole in
      from_components design m
      (gives_at (one_component design) design.components _ c is.component m (components_walk design 0 design.components) is.has_component component)
  terminal_metal (Pin p) metal is =
      let belongs = of_terminal design None (Pin p) in
      let m = with_belonging belongs metal in
      let pin : Contains (belonging belongs (ports_outlines is.0.ports)) m = Contains-map (with_belonging belongs) (ports_outlines is.0.ports) metal is.2 in
      from_pins design m
      (gives_at (design_pin_metal design) design.pins _ p is.0 m (design_pins_walk design 0 design.pins) is.1 pin)

  -- a component's obstructions are metal
  pub obstruction_metal : (c : ℕ) (metal : OnLayer) → IsOfComponentObstruction design c metal → Contains (metal_of design) (of_obstruction c metal)
  obstruction_metal c metal is =
      let belongs : Belonging = record { owner = Obs c; component = Some c; piece = None } in
      let m = with_belonging belongs metal in
      let shapes = drawn is.place is.master.size is.master.obstructions in
      let obstruction : Contains (belonging belongs shapes) m = Contains-map (with_belonging belongs) shapes metal is.draws in
      let whole : Contains (pins_metal design c is.place is.master.size 0 is.master.pins ++ belonging belongs shapes) m =
      Contains-append_right (pins_metal design c is.place is.master.size 0 is.master.pins) _ m obstruction in
      let component : Contains (one_component design c is.component) m = rw (is.has_place, is.has_master) whole in
      from_components design m
      (gives_at (one_component design) design.components _ c is.component m (components_walk design 0 design.components) is.has_component component)

  -- the rectangles of a blockage of a layer are metal
  pub blockage_rect_metal : (k : ℕ) (metal : OnLayer) → IsOfBlockage design k metal → Contains (metal_of design) (of_blockage k metal)
  blockage_rect_metal k metal is =
      let belongs : Belonging = record { owner = Blocking k; component = None; piece = None } in
      let shape = rect_on is.layer is.rect in
      let all = map (rect_on is.layer) is.blockage.rects in
      let m = with_belonging belongs shape in
      let there : Contains all shape = Contains-map (rect_on is.layer) is.blockage.rects is.rect is.has_rect in
      let shapes : Contains (belonging belongs all) m = Contains-map (with_belonging belongs) all shape there in
      let one : Contains (one_blockage k is.blockage) m = rw is.has_layer shapes in
      rw is.is
      (from_blockages design m
      (gives_at one_blockage design.blockages _ k is.blockage m (blockages_walk 0 design.blockages) is.has_blockage one))

  abbrev of_wire : ℕ → ℕ → Belonging
  of_wire n k = record { owner = Net n; component = None; piece = Some k }

  -- the shapes of a wire are among those of the wires that it stands among
  wire_among : (n piece i k : ℕ) (wires : List records.Wire) (wire : records.Wire) (metal : OnLayer) → k ≡ piece + i → slice_get wires i ≡ Some wire
      → Contains (wire_outlines design wire) metal → Contains (wires_metal design n piece wires) (with_belonging (of_wire n k) metal)
  wire_among n piece i k wires wire metal number at draws =
      let m = with_belonging (of_wire n (piece + i)) metal in
      let one : Contains (wire_metal design n (piece + i) wire) m =
      Contains-map (with_belonging (of_wire n (piece + i))) (wire_outlines design wire) metal draws in
      let all : Contains (wires_metal design n piece wires) m =
      subst (λ ms. Contains ms m) (sym (wires_walk design n piece wires)) (gives (wire_metal design n) piece wires i wire m at one) in
      subst (λ p. Contains (wires_metal design n piece wires) (with_belonging (of_wire n p) metal)) (sym number) all

  regular_wire_metal : (n j : ℕ) (wire : records.Wire) (metal : OnLayer) → slice_get (entry_wires (regular_entry design n)) j ≡ Some wire
      → Contains (wire_outlines design wire) metal → Contains (metal_of design) (with_belonging (of_wire n (length (terminals_of design n) + j)) metal)
  regular_wire_metal n j wire metal at draws = by (regular_entry design n) refl where
    m : Metal
    m = with_belonging (of_wire n (length (terminals_of design n) + j)) metal

    by : (o : Option NetModel) → regular_entry design n ≡ o → Contains (metal_of design) m
    by None none =
        let e : ◌≡◌ {A = Option records.Wire} None (Some wire) = rw none at at in
        absurd (let f : ⊥ = cc in f)
    by (Some net) there =
        let it : slice_get net.wires j ≡ Some wire = ap (λ o. slice_get (entry_wires o) j) (sym there) ∙ at in
        from_nets design m
        (gives_at (net_metal design) design.nets _ n net m (nets_walk design 0 design.nets) there
        (wire_among n (length (terminals_of design n)) j (length (terminals_of design n) + j) net.wires wire metal refl it draws))

  special_wire_metal : HasNets design → (n j : ℕ) (wire : records.Wire) (metal : OnLayer) → slice_get (entry_wires (special_entry design n)) j ≡ Some wire
      → Contains (wire_outlines design wire) metal
      → Contains (metal_of design) (with_belonging (of_wire n (length (terminals_of design n) + (length (entry_wires (regular_entry design n)) + j))) metal)
  special_wire_metal has n j wire metal at draws = by (special_entry design n) refl where
    k : ℕ
    k = length (terminals_of design n) + (length (entry_wires (regular_entry design n)) + j)

    m : Metal
    m = with_belonging (of_wire n k) metal

    by : (o : Option NetModel) → special_entry design n ≡ o → Contains (metal_of design) m
    by None none =
        let e : ◌≡◌ {A = Option records.Wire} None (Some wire) = ap (λ o. slice_get (entry_wires o) j) (sym none) ∙ at in
        absurd (let f : ⊥ = cc in f)
    by (Some net) entry =
        let of = special_is design has n net entry in
        let it : slice_get net.wires j ≡ Some wire = ap (λ o. slice_get (entry_wires o) j) (sym entry) ∙ at in
        let there : Contains (wires_metal design n (length (terminals_of design n) + length (entry_wires (regular_entry design n))) net.wires) m =
        wire_among n (length (terminals_of design n) + length (entry_wires (regular_entry design n))) j k net.wires wire metal (omega arith) it draws in
        let one : Contains (one_special design of.k net) m =
        subst (λ i. Contains (wires_metal design i (length (terminals_of design i) + length (entry_wires (regular_entry design i))) net.wires) m)
        (sym of.number) there in
        from_specials design m
        (gives_at (one_special design) design.special _ of.k net m (specials_walk design 0 design.special) of.there one)

  -- a terminal of a net is told as that piece of it
  terminal_of_net : HasNets design → (n k : ℕ) (t : Terminal) → slice_get (terminals_of design n) k ≡ Some t
      → of_terminal design (terminal_component t) t ≡ record { owner = Net n; component = terminal_component t; piece = Some k }
  unfolding owner_of piece_of
  terminal_of_net has n k t at =
      let net : net_of design t ≡ Some n = in_net design has n t (among_from t (terminals_of design n) (contains_at (terminals_of design n) k t at)) in
      rw (net, place_is design has n k t at) refl

pub piece_has : (design : DesignModel) → IsWellFormed design → (n k : ℕ) (piece : Piece) (metal : OnLayer) → slice_get (pieces_of design n) k ≡ Some piece
    → IsMetalOfPiece design n piece metal → Contains (metal_of design) (of_piece n k piece metal)
piece_has design proper n k piece metal at draws = by (piece_cases design n k piece at) where
  wire : (j : ℕ) → k ≡ length (terminals_of design n) + j → IsMetalOfPiece design n (Wire j) metal → Contains (metal_of design) (of_piece n k (Wire j) metal)
  wire j place (it, there, draws) = rw place (which (wire_cases design n j it there)) where
    which : (slice_get (entry_wires (regular_entry design n)) j ≡ Some it)
        ⊎ InSecond (entry_wires (regular_entry design n)) (entry_wires (special_entry design n)) j it
        → Contains (metal_of design) (of_piece n (length (terminals_of design n) + j) (Wire j) metal)
    which (inl regular) = regular_wire_metal design n j it metal regular draws
    which (inr special) =
        subst (λ i. Contains (metal_of design) (of_piece n (length (terminals_of design n) + i) (Wire j) metal)) (sym special.place)
        (special_wire_metal design proper.nets n special.j it metal special.there draws)

  by : IsTerminalPiece design n k piece ⊎ IsWirePiece design n k piece → Contains (metal_of design) (of_piece n k piece metal)
  by (inl it) =
      let of_t : IsOfTerminal design it.terminal metal = subst (λ p. IsMetalOfPiece design n p metal) it.is draws in
      let told : Contains (metal_of design) (of_piece n k (Term it.terminal) metal) =
      subst (λ b. Contains (metal_of design) (record { metal = metal; belongs = b })) (terminal_of_net design proper.nets n k it.terminal it.there)
      (terminal_metal design it.terminal metal of_t) in
      subst (λ p. Contains (metal_of design) (of_piece n k p metal)) (sym it.is) told
  by (inr it) =
      let of_w : IsMetalOfPiece design n (Wire it.j) metal = subst (λ p. IsMetalOfPiece design n p metal) it.is draws in
      subst (λ p. Contains (metal_of design) (of_piece n k p metal)) (sym it.is) (wire it.j it.place of_w)
