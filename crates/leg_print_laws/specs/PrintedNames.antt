-- The names and kept words that lines and entries of a design text print unchanged.
use Rattle.std.specs.Prelude.{ℕ, List, [], ◌∷◌, ◌++◌, map, Option, None, Some, IsTrue}
use Rattle.std.specs.List.{flat_map, list_all}
use Rattle.leg_lex.specs.Words.{Words}
use Rattle.leg_output.specs.Words.{stays_one}
use Rattle.leg_lib_records.specs.declared.records.Shape.{Shape}
use Rattle.leg_lib_records.specs.Records.{ViaModel}
use Rattle.leg_design_records.specs.declared.records.Row.{Row}
use Rattle.leg_design_records.specs.declared.records.Component.{Component}
use Rattle.leg_design_records.specs.declared.records.Terminal.{Terminal}
use Rattle.leg_design_records.specs.declared.records.Terminal.TheVariants.{Comp, Pin}
use Rattle.leg_design_records.specs.declared.records.Wire.{Wire}
use Rattle.leg_design_records.specs.declared.records.Wire.TheVariants.{Segment, ViaAt, Patch}
use Rattle.leg_design_records.specs.Records.{DesignModel, TrackModel, PortModel, PinModel, BlockageModel, NetModel}
use Rattle.leg_output.specs.Names.{layer_name, site_name, master_name}
use Rattle.leg_design_records.specs.Names.{component_pin_name, via_name, component_name, design_pin_name}
use Rattle.leg_output.specs.Text.Wires.{lower_layer_of_via}

-- none of the words ends with `;`, but for the semicolon alone: such a word would be read as two
abbrev pub StayOne : Words → Type 0
StayOne words = IsTrue (list_all stays_one words)

abbrev pub kept_words : Option (List ℕ) → Words
kept_words None = []
kept_words (Some word) = word ∷ []

abbrev pub row_names : DesignModel → Row → Words
row_names design row = row.name ∷ site_name design row.site ∷ []

abbrev pub track_names : DesignModel → TrackModel → Words
track_names design track = map (layer_name design) track.layers

abbrev pub names_of_layers : DesignModel → List Shape → Words
names_of_layers design shapes = map (λ shape. layer_name design shape.layer) shapes

abbrev pub via_entry_names : DesignModel → ViaModel → Words
via_entry_names design via = via.name ∷ names_of_layers design via.shapes

abbrev pub component_entry_names : DesignModel → Component → Words
component_entry_names design component = component.name ∷ master_name design component.master ∷ []

abbrev pub pin_entry_names : DesignModel → PinModel → Words
pin_entry_names design pin =
    pin.name ∷ kept_words pin.net_name ++ kept_words pin.direction ++ kept_words pin.usage
    ++ flat_map (λ (port : PortModel). names_of_layers design port.shapes) pin.ports

abbrev pub name_of_layer : DesignModel → Option ℕ → Words
name_of_layer design None = []
name_of_layer design (Some layer) = layer_name design layer ∷ []

abbrev pub blockage_entry_names : DesignModel → BlockageModel → Words
blockage_entry_names design blockage = name_of_layer design blockage.layer

abbrev pub terminal_names : DesignModel → Terminal → Words
terminal_names design (Comp c k) = component_name design c ∷ component_pin_name design c k ∷ []
terminal_names design (Pin p) = design_pin_name design p ∷ []

abbrev pub wire_names : DesignModel → Wire → Words
wire_names design (Segment layer from to width ext_from ext_to) = layer_name design layer ∷ []
wire_names design (ViaAt via at) = layer_name design (lower_layer_of_via design via) ∷ via_name design via ∷ []
wire_names design (Patch layer at rect) = layer_name design layer ∷ []

abbrev pub net_entry_names : DesignModel → NetModel → Words
net_entry_names design net =
    net.name ∷ kept_words net.usage ++ flat_map (terminal_names design) net.terminals
    ++ flat_map (wire_names design) net.wires

-- all that the text of the design prints
unfoldable pub printed_names : DesignModel → Words
printed_names design =
    design.name ∷ kept_words design.divider ++ kept_words design.bus ++ flat_map (row_names design) design.rows
    ++ flat_map (track_names design) design.tracks ++ flat_map (via_entry_names design) design.vias
    ++ flat_map (component_entry_names design) design.components ++ flat_map (pin_entry_names design) design.pins
    ++ flat_map (blockage_entry_names design) design.blockages ++ flat_map (net_entry_names design) design.special
    ++ flat_map (net_entry_names design) design.nets
