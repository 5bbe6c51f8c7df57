-- Where metal comes from (lefdef's own rules): the obstructions of components, the rectangles of blockages, the shapes of
-- terminals and those of wires. Metal is given with its owner: here is which owner each has.
use Rattle.std.specs.Prelude.{◌≡◌, ℕ, ◌+◌, ◌++◌, length, sum_by, Contains, Option, None, Some, slice_get}
use Rattle.leg_geom.specs.Plane.{RectModel}
use Rattle.leg_geom.specs.declared.place.Place.{Place}
use Rattle.leg_lib_records.specs.Records as library
use Rattle.leg_design_records.specs.declared.records.Component.{Component}
use Rattle.leg_design_records.specs.declared.records.Terminal.{Terminal}
use Rattle.leg_design_records.specs.Records.{DesignModel, PinModel, BlockageModel, NetModel}
use Rattle.leg_rules.specs.declared.owner.Owner.TheVariants.{Obs, Blocking}
use Rattle.leg_rules.specs.declared.piece.Piece.TheVariants.{Wire}
use Rattle.leg_rules.specs.Metal.Outline.Outline.{Rectangle}
use Rattle.leg_rules.specs.Metal.Metal.{OnLayer, Metal, drawn, of_terminal, wire_outlines}
use Rattle.leg_rules.specs.Metal.Pieces.{IsOfTerminal, IsMetalOfPiece, terminal_component, of_piece}

-- one of the obstructions of the macro of component c, at the place of the component
pub record IsOfComponentObstruction (design : DesignModel) (c : ℕ) (metal : OnLayer) : Type 0 where
  pub component : Component
  pub place : Place
  pub master : library.MasterModel
  pub has_component : slice_get design.components c ≡ Some component
  pub has_place : component.place ≡ Some place
  pub has_master : slice_get design.library.masters component.master ≡ Some master
  pub draws : Contains (drawn place master.size master.obstructions) metal

-- such a shape as metal: it is owned by the obstructions of its component, and is of no piece
abbrev pub of_obstruction : ℕ → OnLayer → Metal
of_obstruction c metal = record { metal = metal; belongs = record { owner = Obs c; component = Some c; piece = None } }

-- one of the rectangles of blockage k, which is of a layer, on that layer; blockages of placement count in the numbers
pub record IsOfBlockage (design : DesignModel) (k : ℕ) (metal : OnLayer) : Type 0 where
  pub blockage : BlockageModel
  pub layer : ℕ
  pub rect : RectModel
  pub has_blockage : slice_get design.blockages k ≡ Some blockage
  pub has_layer : blockage.layer ≡ Some layer
  pub has_rect : Contains blockage.rects rect
  pub is : metal ≡ record { layer = layer; outline = Rectangle rect }

-- such a shape as metal: it is owned by the blockage, and is of no component and of no piece
abbrev pub of_blockage : ℕ → OnLayer → Metal
of_blockage k metal = record { metal = metal; belongs = record { owner = Blocking k; component = None; piece = None } }

-- no net lists the terminal
pub record IsLone (design : DesignModel) (terminal : Terminal) : Type 0 where
  pub unlisted : (net : NetModel) → Contains (design.nets ++ design.special) net → ¬ Contains net.terminals terminal

-- a shape of a terminal as metal of the terminal's owner
abbrev pub of_terminal_shape : DesignModel → Terminal → OnLayer → Metal
of_terminal_shape design terminal metal =
    record { metal = metal; belongs = of_terminal design (terminal_component terminal) terminal }

-- Where the metal comes from: it is an obstruction of a component, a rectangle of a blockage, a shape of a terminal, or one of
-- a wire of a net.
pub data HasSource (design : DesignModel) (metal : Metal) : Type 0 where
  obstruction : (c : ℕ) (shape : OnLayer) → IsOfComponentObstruction design c shape → metal ≡ of_obstruction c shape → HasSource design metal
  blockage : (k : ℕ) (shape : OnLayer) → IsOfBlockage design k shape → metal ≡ of_blockage k shape → HasSource design metal
  terminal : (t : Terminal) (shape : OnLayer) → IsOfTerminal design t shape → metal ≡ of_terminal_shape design t shape → HasSource design metal
  wire : (n k w : ℕ) (shape : OnLayer) → IsMetalOfPiece design n (Wire w) shape → metal ≡ of_piece n k (Wire w) shape → HasSource design metal

-- how many shapes a component has: those of its macro's pins and obstructions, if it has a place
abbrev pub component_shape_count : Option Place → Option library.MasterModel → ℕ
component_shape_count (Some place) (Some master) = sum_by (λ pin. length pin.shapes) master.pins + length master.obstructions
component_shape_count place master = 0

abbrev pub component_shapes : DesignModel → Component → ℕ
component_shapes design component = component_shape_count component.place (slice_get design.library.masters component.master)

-- how many a port has, if it has a place, and a pin of the design with its ports
abbrev pub port_shape_count : Option Place → ℕ → ℕ
port_shape_count None count = 0
port_shape_count (Some place) count = count

abbrev pub pin_shapes : PinModel → ℕ
pin_shapes pin = sum_by (λ port. port_shape_count port.place (length port.shapes)) pin.ports

-- how many a blockage has: its rectangles, if it is of a layer
abbrev pub blockage_shape_count : Option ℕ → ℕ → ℕ
blockage_shape_count None count = 0
blockage_shape_count (Some layer) count = count

abbrev pub blockage_shapes : BlockageModel → ℕ
blockage_shapes said = blockage_shape_count said.layer (length said.rects)

-- how many the wires of an entry have: a via has those of its definition, each other wire has one
abbrev pub wire_shapes : DesignModel → NetModel → ℕ
wire_shapes design net = sum_by (λ wire. length (wire_outlines design wire)) net.wires

-- how many shapes are drawn in all
abbrev pub shape_count : DesignModel → ℕ
shape_count design =
    sum_by (component_shapes design) design.components + sum_by pin_shapes design.pins
    + sum_by blockage_shapes design.blockages + sum_by (wire_shapes design) design.nets + sum_by (wire_shapes design) design.special
