-- The forms of a DEF text, and the design that they denote (LEF/DEF 5.8, "DEF Syntax").
use Rattle.std.specs.Prelude.{◌+◌, nat_lt, ◌&&◌, if◌then◌else◌, Option, Some, codes}
use Rattle.std.specs.List.{list_any}
use Rattle.leg_lex.specs.Words.{Words, ◌>>=◌, is_at, end_at, nothing_at}
use Rattle.leg_lex.specs.Until.{until}
use Rattle.leg_lex.specs.Statements.{at_end}
use Rattle.leg_lib_records.specs.Records.{LibraryModel}
use Rattle.leg_design_records.specs.declared.limits.TheConstants.{PART_LIMIT}
use Rattle.leg_grammar.specs.declared.profile.Profile.{Profile}
use Rattle.leg_grammar.specs.Def.Guard.{when, unless}
use Rattle.leg_grammar.specs.Def.DroppedRow.{have_site}
use Rattle.leg_grammar.specs.Def.LonePins.{NetLists, with_lone_pins}
use Rattle.leg_design_records.specs.Records.{DesignModel, terminal_count}
use Rattle.leg_grammar.specs.Def.Parts.{DesignParts, no_parts, divider_form, bus_form, name_form, units_form, die_form, row_form, track_form, rules_form, vias_form, components_form, pins_form, blockages_form, nets_form, special_form}
use Rattle.leg_grammar.specs.Def.SkippedForms.{past_def_form}

-- a form that comes before the sections
unfoldable pub header_form : DesignParts → Words → Option (DesignParts × Words)
header_form parts words =
    if is_at (codes "DIVIDERCHAR") words then divider_form parts words
    else (if is_at (codes "BUSBITCHARS") words then bus_form parts words
    else (if is_at (codes "DESIGN") words then name_form parts words
    else (if is_at (codes "UNITS") words then units_form parts words
    else (if is_at (codes "DIEAREA") words then die_form parts words
    else (if is_at (codes "ROW") words then row_form parts words
    else (if is_at (codes "TRACKS") words then track_form parts words
    else (if is_at (codes "NONDEFAULTRULES") words then rules_form parts.profile parts words
    else (past_def_form parts.profile words >>= λ form. Some (parts, form.1)))))))))

-- one form
unfoldable pub def_form_at : DesignParts → Words → Option (DesignParts × Words)
def_form_at parts words =
    if is_at (codes "VIAS") words then vias_form parts words
    else (if is_at (codes "COMPONENTS") words then components_form parts words
    else (if is_at (codes "PINS") words then pins_form parts words
    else (if is_at (codes "BLOCKAGES") words then blockages_form parts words
    else (if is_at (codes "SPECIALNETS") words then special_form parts words
    else (if is_at (codes "NETS") words then nets_form parts words else header_form parts words)))))

-- the nets, with the lone pins too
abbrev pub all_nets : DesignModel → NetLists
all_nets design = with_lone_pins (record { nets = design.nets; special = design.special }) 0 design.pins

-- the design, whose nets list the lone pins too
abbrev pub with_all_nets : DesignModel → DesignModel
with_all_nets design = record design { nets = (all_nets design).nets; special = (all_nets design).special }

-- DESIGN, UNITS and DIEAREA have appeared, no component's macro has the site of a dropped row, and with the lone pins too there aren't too
-- many terminals
unfoldable pub design_of : DesignParts → Option DesignModel
design_of parts = do
  there ← when (parts.has.name && parts.has.units && parts.has.die)
  sites ← unless (list_any (have_site parts.design.library parts.design.components) parts.dropped)
  few ← unless (nat_lt PART_LIMIT (terminal_count (all_nets parts.design).nets + terminal_count (all_nets parts.design).special))
  Some (with_all_nets parts.design)

-- the forms in a profile, END DESIGN, and nothing after it
unfoldable pub design_in : Profile → LibraryModel → Words → Option DesignModel
design_in profile library words = do
  forms ← until at_end def_form_at (no_parts profile library) words
  end ← end_at (codes "DESIGN") forms.1
  nothing ← nothing_at end.1
  design_of forms.0
