-- The text of a design in one order and one layout, which depend on the design alone (LEF/DEF 5.8, "DEF Syntax"; the
-- order of forms that may come in any order, and the layout, are lefdef's own rules).
use Rattle.std.specs.Prelude.{ℕ, Bool, true, false, List, ◌++◌, codes}
use Rattle.std.specs.List.{flat_map}
use Rattle.leg_output.specs.Words.{line}
use Rattle.leg_lib_records.specs.Records.{ViaModel}
use Rattle.leg_design_records.specs.declared.records.Row.{Row}
use Rattle.leg_design_records.specs.declared.records.Component.{Component}
use Rattle.leg_design_records.specs.Records.{DesignModel, TrackModel, PinModel, BlockageModel, NetModel}
use Rattle.leg_design_records.specs.Names.{net_section}
use Rattle.leg_output.specs.Text.Header.{header_text}
use Rattle.leg_output.specs.Text.Rows.{row_words}
use Rattle.leg_output.specs.Text.Tracks.{track_words}
use Rattle.leg_output.specs.Text.Vias.{via_words}
use Rattle.leg_output.specs.Text.Components.{component_words}
use Rattle.leg_output.specs.Text.Pins.{pin_words}
use Rattle.leg_output.specs.Text.Blockages.{blockage_words}
use Rattle.leg_output.specs.Text.Nets.{net_text}
use Rattle.leg_output.specs.Text.Sections.{section_text, end_words}

abbrev pub rows_text : DesignModel → List Row → List ℕ
rows_text design rows = flat_map (λ row. line (row_words design row)) rows

abbrev pub tracks_text : DesignModel → List TrackModel → List ℕ
tracks_text design tracks = flat_map (λ track. line (track_words design track)) tracks

abbrev pub vias_text : DesignModel → List ViaModel → List ℕ
vias_text design vias = section_text (codes "VIAS") (λ via. line (via_words design via)) vias

abbrev pub components_text : DesignModel → List Component → List ℕ
components_text design components =
    section_text (codes "COMPONENTS") (λ component. line (component_words design component)) components

abbrev pub pins_text : DesignModel → List PinModel → List ℕ
pins_text design pins = section_text (codes "PINS") (λ pin. line (pin_words design pin)) pins

abbrev pub blockages_text : DesignModel → List BlockageModel → List ℕ
blockages_text design blockages =
    section_text (codes "BLOCKAGES") (λ blockage. line (blockage_words design blockage)) blockages

abbrev pub nets_text : DesignModel → Bool → List NetModel → List ℕ
nets_text design special nets = section_text (net_section special) (net_text design special) nets

-- The whole text: header, rows, tracks, sections, and END DESIGN. What a line names comes before it.
unfoldable pub design_text : DesignModel → List ℕ
design_text design =
    header_text design ++ rows_text design design.rows ++ tracks_text design design.tracks
    ++ vias_text design design.vias ++ components_text design design.components
    ++ pins_text design design.pins ++ blockages_text design design.blockages
    ++ nets_text design true design.special ++ nets_text design false design.nets ++ line (end_words (codes "DESIGN"))
