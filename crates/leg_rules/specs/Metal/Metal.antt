-- The metal of a design: every shape with its layer, owner, component and piece, in order (lefdef's own rules; LEF/DEF 5.8,
-- "Component orientation", "Macro Pin Statement", "Macro Obstruction Statement", "Nets", "Special Nets").
use Rattle.std.specs.Prelude.{ℕ, suc, ◌+◌, pos, List, [], ◌∷◌, ◌++◌, length, map, Option, None, Some, slice_get}
use Rattle.std.specs.List.{flat_map}
use Rattle.leg_geom.specs.Plane.{RectModel}
use Rattle.leg_geom.specs.declared.place.Place.{Place}
use Rattle.leg_lib_records.specs.declared.records.Shape.{Shape}
use Rattle.leg_lib_records.specs.Measure.{ExtentModel}
use Rattle.leg_lib_records.specs.Records as library
use Rattle.leg_design_records.specs.declared.records.Component.{Component}
use Rattle.leg_design_records.specs.declared.records.Terminal.{Terminal}
use Rattle.leg_design_records.specs.declared.records.Terminal.TheVariants.{Comp, Pin}
use Rattle.leg_design_records.specs.declared.records.Wire.{Wire}
use Rattle.leg_design_records.specs.declared.records.Wire.TheVariants.{Segment, ViaAt, Patch}
use Rattle.leg_design_records.specs.Records.{DesignModel, PortModel, PinModel, BlockageModel, NetModel}
use Rattle.leg_rules.specs.declared.owner.Owner.{Owner}
use Rattle.leg_rules.specs.declared.owner.Owner.TheVariants.{Net, Obs, Blocking}
use Rattle.leg_rules.specs.Metal.Nets.{number_of_special, regular_entry, entry_wires, terminals_of}
use Rattle.leg_rules.specs.Metal.Owner.{owner_of, piece_of}
use Rattle.leg_rules.specs.Metal.Outline.{Outline}
use Rattle.leg_rules.specs.Metal.Outline.Outline.{Drawn, Line, Shifted, Rectangle}

-- a piece of metal on a layer
pub record OnLayer : Type 0 where
  pub layer : ℕ
  pub outline : Outline

-- whose it is; the component that it belongs to, if one does; and the piece of its net, if its owner is a net
pub record Belonging : Type 0 where
  pub owner : Owner
  pub component : Option ℕ
  pub piece : Option ℕ

pub record Metal : Type 0 where
  pub metal : OnLayer
  pub belongs : Belonging

abbrev pub belonging : Belonging → List OnLayer → List Metal
belonging belongs outlines = map (λ m. record { metal = m; belongs = belongs }) outlines

-- shapes of a box of this size, at its place
abbrev pub drawn : Place → ExtentModel → List Shape → List OnLayer
drawn place size shapes = map (λ s. record { layer = s.layer; outline = Drawn place size s.rect }) shapes

-- what a terminal's metal belongs to, the terminal being of this component if of one
abbrev pub of_terminal : DesignModel → Option ℕ → Terminal → Belonging
of_terminal design component terminal =
    record { owner = owner_of design terminal; component = component; piece = piece_of design terminal }

-- the pins of component c, the first being number k
unfoldable pub pins_metal : DesignModel → ℕ → Place → ExtentModel → ℕ → List library.MasterPinModel → List Metal
pins_metal design c place size k [] = []
pins_metal design c place size k (pin ∷ pins) =
    belonging (of_terminal design (Some c) (Comp c k)) (drawn place size pin.shapes)
    ++ pins_metal design c place size (suc k) pins

-- a macro as component c: its pins, and then its obstructions
abbrev pub master_metal : DesignModel → ℕ → Place → library.MasterModel → List Metal
master_metal design c place master =
    pins_metal design c place master.size 0 master.pins
    ++ belonging (record { owner = Obs c; component = Some c; piece = None }) (drawn place master.size master.obstructions)

-- a component without a place has no metal
abbrev pub component_metal : DesignModel → ℕ → Option Place → Option library.MasterModel → List Metal
component_metal design c (Some place) (Some master) = master_metal design c place master
component_metal design c place master = []

-- the components in file order, the first being number c
unfoldable pub components_metal : DesignModel → ℕ → List Component → List Metal
components_metal design c [] = []
components_metal design c (component ∷ components) =
    component_metal design c component.place (slice_get design.library.masters component.master)
    ++ components_metal design (suc c) components

abbrev pub no_size : ExtentModel
no_size = record { width = pos 0; height = pos 0 }

-- the shapes of a port are turned about the point 0 0, and moved by the port's place; without one it has no metal
abbrev pub port_outlines : Option Place → List Shape → List OnLayer
port_outlines None shapes = []
port_outlines (Some place) shapes = drawn place no_size shapes

unfoldable pub ports_outlines : List PortModel → List OnLayer
ports_outlines [] = []
ports_outlines (port ∷ ports) = port_outlines port.place port.shapes ++ ports_outlines ports

-- the pins of the design in file order, the first being number p
unfoldable pub design_pins_metal : DesignModel → ℕ → List PinModel → List Metal
design_pins_metal design p [] = []
design_pins_metal design p (pin ∷ pins) =
    belonging (of_terminal design None (Pin p)) (ports_outlines pin.ports) ++ design_pins_metal design (suc p) pins

-- the rectangles of blockage k are metal of its layer, where one is named
abbrev pub blockage_metal : ℕ → Option ℕ → List RectModel → List Metal
blockage_metal k None rects = []
blockage_metal k (Some layer) rects =
    belonging (record { owner = Blocking k; component = None; piece = None })
    (map (λ rect. record { layer = layer; outline = Rectangle rect }) rects)

-- the blockages in file order, the first being number k
unfoldable pub blockages_metal : ℕ → List BlockageModel → List Metal
blockages_metal k [] = []
blockages_metal k (blockage ∷ blockages) =
    blockage_metal k blockage.layer blockage.rects ++ blockages_metal (suc k) blockages

-- a via's shapes, in the order of its definition, from its point
abbrev pub via_outlines : Option library.ViaModel → Wire → List OnLayer
via_outlines (Some via) (ViaAt number at) = map (λ s. record { layer = s.layer; outline = Shifted at s.rect }) via.shapes
via_outlines via wire = []

-- the vias of the library count first
abbrev pub wire_outlines : DesignModel → Wire → List OnLayer
wire_outlines design (Segment layer from to width ext_from ext_to) =
    record { layer = layer; outline = Line from to width ext_from ext_to } ∷ []
wire_outlines design (ViaAt number at) = via_outlines (slice_get (design.library.vias ++ design.vias) number) (ViaAt number at)
wire_outlines design (Patch layer at rect) = record { layer = layer; outline = Shifted at rect } ∷ []

-- wires of net n, of which the first is this piece of it
unfoldable pub wires_metal : DesignModel → ℕ → ℕ → List Wire → List Metal
wires_metal design n piece [] = []
wires_metal design n piece (wire ∷ wires) =
    belonging (record { owner = Net n; component = None; piece = Some piece }) (wire_outlines design wire)
    ++ wires_metal design n (suc piece) wires

-- the wires of NETS, the first entry being net n: after a net's terminals come its wires
unfoldable pub nets_metal : DesignModel → ℕ → List NetModel → List Metal
nets_metal design n [] = []
nets_metal design n (net ∷ nets) =
    wires_metal design n (length (terminals_of design n)) net.wires ++ nets_metal design (suc n) nets

-- the wires of an entry of SPECIALNETS come after those of the net's entry of NETS
abbrev pub special_metal : DesignModel → ℕ → NetModel → List Metal
special_metal design n net =
    wires_metal design n (length (terminals_of design n) + length (entry_wires (regular_entry design n))) net.wires

-- the wires of SPECIALNETS, the first entry being number k
unfoldable pub specials_metal : DesignModel → ℕ → List NetModel → List Metal
specials_metal design k [] = []
specials_metal design k (net ∷ nets) =
    special_metal design (number_of_special design k net) net ++ specials_metal design (suc k) nets

-- the parts of the metal, in order: components, pins of the design, blockages, wires of NETS, wires of SPECIALNETS
abbrev pub metal_parts : DesignModel → List (List Metal)
metal_parts design =
    components_metal design 0 design.components
    ∷ design_pins_metal design 0 design.pins
    ∷ blockages_metal 0 design.blockages
    ∷ nets_metal design 0 design.nets
    ∷ specials_metal design 0 design.special
    ∷ []

-- The metal of a design: its parts one after another.
unfoldable pub metal_of : DesignModel → List Metal
metal_of design = flat_map (λ part. part) (metal_parts design)
