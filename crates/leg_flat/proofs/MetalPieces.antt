-- Metal of a net is a shape of the piece whose number it has.
use Rattle.std.proofs.Common.{◌≡◌, ℕ, ◌+◌, length, slice_get, Contains, Option, None, Some, refl}
use Rattle.std.proofs.lemmas.Option.{slice_get_within}
use Rattle.leg_lib_records.specs.declared.records.Supply.{Supply}
use Rattle.leg_lib_records.specs.declared.records.Supply.TheVariants.{NoSupply, Power, Ground}
use Rattle.leg_lib_records.specs.Records as library
use Rattle.leg_design_records.specs.declared.records.Terminal.{Terminal}
use Rattle.leg_design_records.specs.declared.records.Terminal.TheVariants.{Comp, Pin}
use Rattle.leg_design_records.specs.declared.records.Wire as records
use Rattle.leg_design_records.specs.Records.{DesignModel}
use Rattle.leg_design_records.specs.WellFormed.{IsWellFormed}
use Rattle.leg_design_records.specs.WellFormedNets.{HasNets}
use Rattle.leg_rules.specs.declared.owner.Owner.TheVariants.{Net}
use Rattle.leg_rules.specs.declared.piece.Piece.TheVariants.{Term, Wire}
use Rattle.leg_rules.specs.Metal.Nets.{terminals_of, wires_of}
use Rattle.leg_rules.specs.Metal.Owner.{net_of, owner_by_use, lone_owner, owner_of, piece_of}
use Rattle.leg_design_records.specs.Names.{master_pin}
use Rattle.leg_rules.specs.Metal.Metal.{OnLayer, Metal, of_terminal, wire_outlines, metal_of}
use Rattle.leg_rules.specs.Metal.Pieces.{IsOfTerminal, terminal_component, HasItsPiece}
use Rattle.leg_flat.proofs.AllNets.{net_in}
use Rattle.leg_flat.proofs.PlacesAmong.{has_place}
use Rattle.leg_flat.proofs.MetalCases.{each_metal}
use Rattle.leg_flat.proofs.PiecePlaces.{at_place, terminal_piece, wire_piece}

module _ (design : DesignModel) (has : HasNets design) where
  -- metal of a terminal in no net
  by_use : (metal : OnLayer) (component : Option ℕ) (t : Terminal) (pin : Option library.MasterPinModel)
      → HasItsPiece design (record { metal = metal; belongs = record { owner = owner_by_use t pin; component = component; piece = None } })
  by_use metal component t None = refl
  by_use metal component t (Some pin) = by pin.supply refl where
    by : (supply : Supply) → pin.supply ≡ supply → HasItsPiece design
        (record { metal = metal; belongs = record { owner = owner_by_use t (Some pin); component = component; piece = None } })
    by NoSupply is = rw is refl
    by Power is = rw is refl
    by Ground is = rw is refl

  lone : (metal : OnLayer) (component : Option ℕ) (t : Terminal)
      → HasItsPiece design (record { metal = metal; belongs = record { owner = lone_owner design t; component = component; piece = None } })
  lone metal component (Comp c k) = by_use metal component (Comp c k) (master_pin design c k)
  lone metal component (Pin p) = refl

  -- metal of a terminal
  terminal_has : (t : Terminal) (metal : OnLayer) → IsOfTerminal design t metal
      → HasItsPiece design (record { metal = metal; belongs = of_terminal design (terminal_component t) t })
  unfolding owner_of piece_of
  terminal_has t metal of_t = by (net_of design t) refl where
    by : (o : Option ℕ) → net_of design t ≡ o → HasItsPiece design (record { metal = metal; belongs = of_terminal design (terminal_component t) t })
    by None none = rw none (lone metal (terminal_component t) t)
    by (Some n) of =
        let it = net_in design has t n of in
        let place = has_place t (terminals_of design n) it.among in
        rw of (
          place.k,
          place.is,
          record {
            piece = Term t;
            has_piece = terminal_piece design n place.k t (at_place t (terminals_of design n) place.k place.is);
            draws = of_t;
            component = refl;
          },
        )

  -- metal of a wire
  wire_has : (n j : ℕ) (wire : records.Wire) (metal : OnLayer) → slice_get (wires_of design n) j ≡ Some wire → Contains (wire_outlines design wire) metal
      → HasItsPiece design (record { metal = metal; belongs = record { owner = Net n; component = None; piece = Some (length (terminals_of design n) + j) } })
  wire_has n j wire metal at draws = (
    length (terminals_of design n) + j,
    refl,
    record {
      piece = Wire j;
      has_piece = wire_piece design n j (slice_get_within (wires_of design n) j wire at);
      draws = (wire, at, draws);
      component = refl;
    },
  )

pub metal_has : (design : DesignModel) → IsWellFormed design → (m : Metal) → Contains (metal_of design) m → HasItsPiece design m
metal_has design proper =
    each_metal design proper.nets (HasItsPiece design)
    (λ c shape is. refl)
    (λ k shape is. refl)
    (terminal_has design proper.nets)
    (λ n w shape is. wire_has design proper.nets n w is.0 shape is.1 is.2)
