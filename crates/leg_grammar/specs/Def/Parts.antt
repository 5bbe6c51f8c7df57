-- What the forms of a DEF text gave so far, and how each form adds to it (LEF/DEF 5.8, "DEF Syntax").
use Rattle.std.specs.Option.{option_or}
use Rattle.std.specs.Prelude.{ℕ, pos, Bool, true, false, ◌==◌, List, [], ◌∷◌, ◌++◌, Option, None, Some, is_some, codes}
use Rattle.leg_lex.specs.Words.{Words, ◌>>=◌}
use Rattle.leg_geom.specs.Plane.{RectModel}
use Rattle.leg_lib_records.specs.Records.{LibraryModel, RuleModel}
use Rattle.leg_grammar.specs.declared.profile.Profile.{Profile}
use Rattle.leg_grammar.specs.declared.profile.Profile.TheVariants.{Narrow, Wide}
use Rattle.leg_grammar.specs.Def.Guard.{when, unless}
use Rattle.leg_grammar.specs.declared.turned_via.TurnedVia.{TurnedVia}
use Rattle.leg_grammar.specs.Def.NetScope.{NetScopeModel}
use Rattle.leg_grammar.specs.Def.TurnedVia.{TurnedVias, turned_vias_at}
use Rattle.leg_grammar.specs.Def.Header.{word_after, design_name_at, units_at}
use Rattle.leg_grammar.specs.Def.Die.{die_at}
use Rattle.leg_grammar.specs.Def.Row.{row_at}
use Rattle.leg_grammar.specs.Def.DroppedRow.{dropped_row_at, with_site}
use Rattle.leg_grammar.specs.Def.Track.{track_at}
use Rattle.leg_grammar.specs.Def.Via.{vias_at}
use Rattle.leg_grammar.specs.Def.Component.{components_at}
use Rattle.leg_grammar.specs.Def.Pin.{pins_at}
use Rattle.leg_grammar.specs.Def.Blockage.{blockages_at}
use Rattle.leg_grammar.specs.Def.Net.{nets_at}
use Rattle.leg_grammar.specs.Def.Rule.{rules_at, rules_of}
use Rattle.leg_grammar.specs.Def.SkippedForms.{past_def_section}
use Rattle.leg_design_records.specs.Records.{DesignModel}

-- Which of the forms that appear at most once have appeared: DESIGN, UNITS, DIEAREA and the sections. Of DIVIDERCHAR and
-- BUSBITCHARS the design tells it.
pub record Appearances : Type 0 where
  pub name : Bool
  pub units : Bool
  pub die : Bool
  pub vias : Bool
  pub components : Bool
  pub pins : Bool
  pub blockages : Bool
  pub nets : Bool
  pub special : Bool

-- What the forms before gave: a design, whose name is empty until DESIGN has appeared, and its die area a point until DIEAREA has. The
-- profile in which they are read stays the same. In the wide profile, the sites of rows that were dropped, nondefault rules, and which vias
-- are turned.
pub record DesignParts : Type 0 where
  pub profile : Profile
  pub has : Appearances
  pub design : DesignModel
  pub dropped : List ℕ
  pub rules : List RuleModel
  pub turned : List TurnedVia

-- the point 0 0
abbrev pub no_die : RectModel
no_die = record { x1 = pos 0; y1 = pos 0; x2 = pos 0; y2 = pos 0 }

-- before the first form
abbrev pub no_parts : Profile → LibraryModel → DesignParts
no_parts profile library = record {
  profile = profile;
  has = record { name = false; units = false; die = false; vias = false; components = false; pins = false; blockages = false; nets = false; special = false };
  design = record {
    library = library;
    name = [];
    divider = None;
    bus = None;
    die = no_die;
    rows = [];
    tracks = [];
    vias = [];
    components = [];
    pins = [];
    blockages = [];
    nets = [];
    special = [];
  };
  dropped = [];
  rules = [];
  turned = [];
}

-- what pins and nets may name, where there are no nondefault rules and no via is turned
abbrev pub net_scope : Profile → DesignModel → NetScopeModel
net_scope profile design = record {
  profile = profile;
  library = design.library;
  vias = design.vias;
  turned = [];
  components = design.components;
  pins = design.pins;
  rules = [];
  rule = None;
}

-- the same of what was read so far, with the vias that are turned and with the nondefault rules
abbrev pub parts_scope : DesignParts → NetScopeModel
parts_scope parts = record (net_scope parts.profile parts.design) { turned = parts.turned; rules = parts.rules }

-- what vias there are besides those before, and which of them are turned: a section VIAS can't come any more
abbrev pub with_vias : TurnedVias → DesignParts → DesignParts
with_vias made parts = record parts { has = record (parts.has) { vias = true }; design = record (parts.design) { vias = made.vias }; turned = made.turned }

-- what the forms before gave, with the vias that these words turn
unfoldable pub with_turned_vias : DesignParts → Words → Option DesignParts
with_turned_vias parts words = do
  made ← turned_vias_at parts.design.library (record { vias = parts.design.vias; turned = parts.turned }) words
  Some (with_vias made.0 parts)

-- the same in the wide profile alone
unfoldable pub turned_parts : Profile → DesignParts → Words → Option DesignParts
turned_parts Narrow parts words = None
turned_parts (Wide masks soft) parts words = with_turned_vias parts words

-- DIVIDERCHAR word ; once
unfoldable pub divider_form : DesignParts → Words → Option (DesignParts × Words)
divider_form parts words = do
  once ← unless (is_some parts.design.divider)
  word ← word_after (codes "DIVIDERCHAR") words
  Some (record parts { design = record (parts.design) { divider = Some word.0 } }, word.1)

-- BUSBITCHARS word ; once
unfoldable pub bus_form : DesignParts → Words → Option (DesignParts × Words)
bus_form parts words = do
  once ← unless (is_some parts.design.bus)
  word ← word_after (codes "BUSBITCHARS") words
  Some (record parts { design = record (parts.design) { bus = Some word.0 } }, word.1)

-- DESIGN NAME ; once
unfoldable pub name_form : DesignParts → Words → Option (DesignParts × Words)
name_form parts words = do
  once ← unless parts.has.name
  name ← design_name_at words
  Some (record parts { has = record (parts.has) { name = true }; design = record (parts.design) { name = name.0 } }, name.1)

-- UNITS once, with the library's
unfoldable pub units_form : DesignParts → Words → Option (DesignParts × Words)
units_form parts words = do
  once ← unless parts.has.units
  n ← units_at words
  same ← when (n.0 == parts.design.library.units)
  Some (record parts { has = record (parts.has) { units = true } }, n.1)

-- DIEAREA once
unfoldable pub die_form : DesignParts → Words → Option (DesignParts × Words)
die_form parts words = do
  once ← unless parts.has.die
  die ← die_at words
  Some (record parts { has = record (parts.has) { die = true }; design = record (parts.design) { die = die.0 } }, die.1)

unfoldable pub kept_row_form : DesignParts → Words → Option (DesignParts × Words)
kept_row_form parts words = do
  row ← row_at parts.design.library words
  Some (record parts { design = record (parts.design) { rows = parts.design.rows ++ row.0 ∷ [] } }, row.1)

-- a row that is dropped, in the wide profile alone
unfoldable pub dropped_row_form : Profile → DesignParts → Words → Option (DesignParts × Words)
dropped_row_form Narrow parts words = None
dropped_row_form (Wide masks soft) parts words = do
  site ← dropped_row_at parts.design.library words
  Some (record parts { dropped = with_site site.0 parts.dropped }, site.1)

-- a row, or one that is dropped
unfoldable pub row_form : DesignParts → Words → Option (DesignParts × Words)
row_form parts words = option_or (kept_row_form parts words) (dropped_row_form parts.profile parts words)

unfoldable pub track_form : DesignParts → Words → Option (DesignParts × Words)
track_form parts words = do
  track ← track_at parts.profile parts.design.library words
  Some (record parts { design = record (parts.design) { tracks = parts.design.tracks ++ track.0 ∷ [] } }, track.1)

-- A section of nondefault rules is read past in each profile. In the wide one its rules are kept, in place of those of a section before.
unfoldable pub rules_form : Profile → DesignParts → Words → Option (DesignParts × Words)
rules_form Narrow parts words = past_def_section words >>= λ section. Some (parts, section.1)
rules_form (Wide masks soft) parts words = do
  section ← past_def_section words
  Some (record parts { rules = rules_of (rules_at parts.design.library words) }, section.1)

-- each section appears at most once
unfoldable pub vias_form : DesignParts → Words → Option (DesignParts × Words)
vias_form parts words = do
  once ← unless parts.has.vias
  vias ← vias_at parts.profile parts.design.library words
  Some (record parts { has = record (parts.has) { vias = true }; design = record (parts.design) { vias = vias.0 } }, vias.1)

unfoldable pub components_form : DesignParts → Words → Option (DesignParts × Words)
components_form parts words = do
  once ← unless parts.has.components
  components ← components_at parts.design.library words
  Some (record parts { has = record (parts.has) { components = true }; design = record (parts.design) { components = components.0 } }, components.1)

unfoldable pub pins_form : DesignParts → Words → Option (DesignParts × Words)
pins_form parts words = do
  once ← unless parts.has.pins
  pins ← pins_at (parts_scope parts) words
  Some (record parts { has = record (parts.has) { pins = true }; design = record (parts.design) { pins = pins.0 } }, pins.1)

unfoldable pub blockages_form : DesignParts → Words → Option (DesignParts × Words)
blockages_form parts words = do
  once ← unless parts.has.blockages
  blockages ← blockages_at parts.profile parts.design.library words
  Some (record parts { has = record (parts.has) { blockages = true }; design = record (parts.design) { blockages = blockages.0 } }, blockages.1)

-- the section NETS under the vias before
unfoldable pub nets_section_form : DesignParts → Words → Option (DesignParts × Words)
nets_section_form parts words = do
  nets ← nets_at (parts_scope parts) false parts.design.special words
  Some (record parts { has = record (parts.has) { nets = true }; design = record (parts.design) { nets = nets.0 } }, nets.1)

-- the same; and where that says nothing, with the vias that its words turn
unfoldable pub nets_form : DesignParts → Words → Option (DesignParts × Words)
nets_form parts words = do
  once ← unless parts.has.nets
  option_or (nets_section_form parts words) (turned_parts parts.profile parts words >>= λ turned. nets_section_form turned words)

-- SPECIALNETS, in the same way
unfoldable pub special_section_form : DesignParts → Words → Option (DesignParts × Words)
special_section_form parts words = do
  special ← nets_at (parts_scope parts) true parts.design.nets words
  Some (record parts { has = record (parts.has) { special = true }; design = record (parts.design) { special = special.0 } }, special.1)

unfoldable pub special_form : DesignParts → Words → Option (DesignParts × Words)
special_form parts words = do
  once ← unless parts.has.special
  option_or (special_section_form parts words) (turned_parts parts.profile parts words >>= λ turned. special_section_form turned words)
