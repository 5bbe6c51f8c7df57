-- Which metal is a piece's (lefdef's own rules). Metal is given with numbers of nets and pieces: here is what these numbers mean.
use Rattle.std.specs.Prelude.{◌≡◌, ℕ, ◌⊎◌, Contains, Option, None, Some, slice_get}
use Rattle.leg_geom.specs.declared.place.Place.{Place}
use Rattle.leg_lib_records.specs.Records as library
use Rattle.leg_design_records.specs.declared.records.Component.{Component}
use Rattle.leg_design_records.specs.declared.records.Terminal.{Terminal}
use Rattle.leg_design_records.specs.declared.records.Terminal.TheVariants.{Comp, Pin}
use Rattle.leg_design_records.specs.declared.records.Wire as records
use Rattle.leg_design_records.specs.Records.{DesignModel, PinModel, NetModel}
use Rattle.leg_rules.specs.declared.owner.Owner.{Owner}
use Rattle.leg_rules.specs.declared.owner.Owner.TheVariants as owners
use Rattle.leg_rules.specs.declared.piece.Piece.{Piece}
use Rattle.leg_rules.specs.declared.piece.Piece.TheVariants.{Term, Wire}
use Rattle.leg_rules.specs.Metal.Nets.{number_of_special, wires_of, pieces_of}
use Rattle.leg_rules.specs.Metal.Metal.{OnLayer, Metal, drawn, ports_outlines, wire_outlines}

-- one of the shapes of pin k of the macro of component c, at the place of the component
pub record IsOfComponentPin (design : DesignModel) (c k : ℕ) (metal : OnLayer) : Type 0 where
  pub component : Component
  pub place : Place
  pub master : library.MasterModel
  pub pin : library.MasterPinModel
  pub has_component : slice_get design.components c ≡ Some component
  pub has_place : component.place ≡ Some place
  pub has_master : slice_get design.library.masters component.master ≡ Some master
  pub has_pin : slice_get master.pins k ≡ Some pin
  pub draws : Contains (drawn place master.size pin.shapes) metal

-- the metal is one of the terminal's shapes
abbrev pub IsOfTerminal : DesignModel → Terminal → OnLayer → Type 0
IsOfTerminal design (Comp c k) metal = IsOfComponentPin design c k metal
IsOfTerminal design (Pin p) metal =
    (pin : PinModel) × (slice_get design.pins p ≡ Some pin) × Contains (ports_outlines pin.ports) metal

-- the metal is one of the shapes of a piece of net n: of the terminal, or of the wire of that number
abbrev pub IsMetalOfPiece : DesignModel → ℕ → Piece → OnLayer → Type 0
IsMetalOfPiece design n (Term terminal) metal = IsOfTerminal design terminal metal
IsMetalOfPiece design n (Wire w) metal =
    (wire : records.Wire) × (slice_get (wires_of design n) w ≡ Some wire) × Contains (wire_outlines design wire) metal

-- the component that a terminal is a pin of, if it is of one
abbrev pub terminal_component : Terminal → Option ℕ
terminal_component (Comp c k) = Some c
terminal_component (Pin p) = None

-- the component that a piece belongs to: wires belong to none
abbrev pub piece_component : Piece → Option ℕ
piece_component (Term terminal) = terminal_component terminal
piece_component (Wire w) = None

-- the metal belongs to piece k of net n: that is a piece of this net, the metal is one of its shapes, and it is of the
-- piece's component
pub record IsOfNumber (design : DesignModel) (n k : ℕ) (metal : Metal) : Type 0 where
  pub piece : Piece
  pub has_piece : slice_get (pieces_of design n) k ≡ Some piece
  pub draws : IsMetalOfPiece design n piece metal.metal
  pub component : metal.belongs.component ≡ piece_component piece

-- Metal of a net belongs to the piece whose number it has; metal of another owner has no piece.
abbrev pub HasItsPiece : DesignModel → Metal → Type 0
HasItsPiece design metal = by metal.belongs.owner where
  by : Owner → Type 0
  by (owners.Net n) = (k : ℕ) × (metal.belongs.piece ≡ Some k) × IsOfNumber design n k metal
  by other = metal.belongs.piece ≡ None

-- a shape of piece k of net n, as metal with these numbers
abbrev pub of_piece : ℕ → ℕ → Piece → OnLayer → Metal
of_piece n k piece metal =
    record { metal = metal; belongs = record { owner = owners.Net n; component = piece_component piece; piece = Some k } }

-- an entry of net n: the entry of NETS at this place, or one of SPECIALNETS that has this number
abbrev pub IsEntryOf : DesignModel → ℕ → NetModel → Type 0
IsEntryOf design n net =
    (slice_get design.nets n ≡ Some net) ⊎ ((k : ℕ) × (slice_get design.special k ≡ Some net) × (number_of_special design k net ≡ n))
