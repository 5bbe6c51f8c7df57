-- Each form of a DEF takes a word.
use Rattle.std.proofs.Common.{◌≡◌, ◌<◌, Bool, true, false, ◌==◌, ◌&&◌, List, [], ◌∷◌, length, Some, is_some, codes, arith}
use Rattle.leg_lex.specs.Words.{Words, is_at, end_at}
use Rattle.leg_lex.proofs.Until.{Below, Shortens, below_none, below_some, below_bind, below_ask, below_if, below_more}
use Rattle.leg_lex.proofs.Shorter.{end_below}
use Rattle.leg_lex.proofs.Statements.{statement_below}
use Rattle.leg_lex.proofs.ReadPast.{past_below, past_extension_below}
use Rattle.leg_grammar.specs.declared.profile.Profile.{Profile}
use Rattle.leg_grammar.specs.declared.profile.Profile.TheVariants.{Narrow, Wide}
use Rattle.leg_grammar.specs.Def.Guard.{when, unless}
use Rattle.leg_grammar.specs.Mask.{drops_masks}
use Rattle.leg_grammar.specs.Def.NetScope.{NetScopeModel}
use Rattle.leg_design_records.specs.Records.{NetModel}
use Rattle.leg_grammar.specs.Def.Net.{net_entry, nets_at}
use Rattle.leg_design_records.specs.Names.{net_section}
use Rattle.leg_grammar.specs.Def.Parts.{DesignParts, parts_scope, divider_form, bus_form, name_form, units_form, die_form, kept_row_form, dropped_row_form, row_form, track_form, rules_form, vias_form, components_form, pins_form, blockages_form, nets_form, special_form, turned_parts, nets_section_form, special_section_form}
use Rattle.leg_grammar.specs.Def.SkippedForms.{is_past_statement, is_past_section, past_def_section, past_def_form}
use Rattle.leg_grammar.specs.Def.Form.{header_form, def_form_at}
use Rattle.leg_design_common.proofs.Either.{below_either}
use Rattle.leg_design_common.proofs.Sections.{section_below}
use Rattle.leg_design.proofs.Headers.{word_after_below, design_name_below, units_below}
use Rattle.leg_design_floorplan.proofs.Dies.{die_below}
use Rattle.leg_design_floorplan.proofs.Rows.{row_below}
use Rattle.leg_design_floorplan.proofs.DroppedRows.{dropped_row_below}
use Rattle.leg_design_floorplan.proofs.Tracks.{track_below}
use Rattle.leg_design_floorplan.proofs.Vias.{vias_below}
use Rattle.leg_design_floorplan.proofs.Components.{components_below}
use Rattle.leg_design_floorplan.proofs.Pins.{pins_below}
use Rattle.leg_design_floorplan.proofs.Blockages.{blockages_below}
use Rattle.leg_design_nets.proofs.NetEntries.{net_entry_shortens}

-- the entries of nets

nets_below : (scope : NetScopeModel) (special : Bool) (others : List NetModel) (words : Words) → Below (length words) (nets_at scope special others words)
unfolding nets_at
nets_below scope special others words =
    section_below (net_section special) (net_entry scope special others) (net_entry_shortens scope special others) [] words

-- what is read past

past_section_below : (words : Words) → Below (length words) (past_def_section words)
unfolding past_def_section
past_section_below [] = below_none 0
past_section_below (keyword ∷ words) = below_more (omega arith) (past_below (end_at keyword) (end_below keyword) words)

past_form_below : (profile : Profile) (words : Words) → Below (length words) (past_def_form profile words)
unfolding past_def_form
past_form_below profile words =
    below_if (is_past_statement words) (below_bind (omega arith) (statement_below words) (λ statement l. below_some tt statement.1 l))
    (below_if (is_past_section words) (past_section_below words)
    (below_if (is_at (codes "BEGINEXT") words) (past_extension_below words)
    (below_if (drops_masks profile && is_at (codes "COMPONENTMASKSHIFT") words)
    (below_bind (omega arith) (statement_below words) (λ statement l. below_some tt statement.1 l)) (below_none (length words)))))

-- the forms

divider_form_below : (parts : DesignParts) (words : Words) → Below (length words) (divider_form parts words)
unfolding divider_form
divider_form_below parts words =
    below_ask (unless (is_some parts.design.divider)) (λ once.
    below_bind (omega arith) (word_after_below (codes "DIVIDERCHAR") words) (λ word l. below_some _ word.1 l))

bus_form_below : (parts : DesignParts) (words : Words) → Below (length words) (bus_form parts words)
unfolding bus_form
bus_form_below parts words =
    below_ask (unless (is_some parts.design.bus)) (λ once.
    below_bind (omega arith) (word_after_below (codes "BUSBITCHARS") words) (λ word l. below_some _ word.1 l))

name_form_below : (parts : DesignParts) (words : Words) → Below (length words) (name_form parts words)
unfolding name_form
name_form_below parts words =
    below_ask (unless parts.has.name) (λ once.
    below_bind (omega arith) (design_name_below words) (λ name l. below_some _ name.1 l))

units_form_below : (parts : DesignParts) (words : Words) → Below (length words) (units_form parts words)
unfolding units_form
units_form_below parts words =
    below_ask (unless parts.has.units) (λ once.
    below_bind (omega arith) (units_below words) (λ n l.
    below_ask (when (n.0 == parts.design.library.units)) (λ same. below_some _ n.1 l)))

die_form_below : (parts : DesignParts) (words : Words) → Below (length words) (die_form parts words)
unfolding die_form
die_form_below parts words =
    below_ask (unless parts.has.die) (λ once.
    below_bind (omega arith) (die_below words) (λ die l. below_some _ die.1 l))

kept_row_form_below : (parts : DesignParts) (words : Words) → Below (length words) (kept_row_form parts words)
unfolding kept_row_form
kept_row_form_below parts words =
    below_bind (omega arith) (row_below parts.design.library words) (λ row l. below_some _ row.1 l)

dropped_row_form_below : (profile : Profile) (parts : DesignParts) (words : Words) → Below (length words) (dropped_row_form profile parts words)
unfolding dropped_row_form
dropped_row_form_below Narrow parts words = below_none (length words)
dropped_row_form_below (Wide masks soft) parts words =
    below_bind (omega arith) (dropped_row_below parts.design.library words) (λ site l. below_some _ site.1 l)

row_form_below : (parts : DesignParts) (words : Words) → Below (length words) (row_form parts words)
unfolding row_form
row_form_below parts words =
    below_either (kept_row_form parts words) (dropped_row_form parts.profile parts words) (kept_row_form_below parts words)
    (dropped_row_form_below parts.profile parts words)

track_form_below : (parts : DesignParts) (words : Words) → Below (length words) (track_form parts words)
unfolding track_form
track_form_below parts words =
    below_bind (omega arith) (track_below parts.profile parts.design.library words) (λ track l. below_some _ track.1 l)

rules_form_below : (profile : Profile) (parts : DesignParts) (words : Words) → Below (length words) (rules_form profile parts words)
unfolding rules_form
rules_form_below Narrow parts words = below_bind (omega arith) (past_section_below words) (λ section l. below_some parts section.1 l)
rules_form_below (Wide masks soft) parts words = below_bind (omega arith) (past_section_below words) (λ section l. below_some _ section.1 l)

vias_form_below : (parts : DesignParts) (words : Words) → Below (length words) (vias_form parts words)
unfolding vias_form
vias_form_below parts words =
    below_ask (unless parts.has.vias) (λ once.
    below_bind (omega arith) (vias_below parts.profile parts.design.library words) (λ vias l. below_some _ vias.1 l))

components_form_below : (parts : DesignParts) (words : Words) → Below (length words) (components_form parts words)
unfolding components_form
components_form_below parts words =
    below_ask (unless parts.has.components) (λ once.
    below_bind (omega arith) (components_below parts.design.library words) (λ components l. below_some _ components.1 l))

pins_form_below : (parts : DesignParts) (words : Words) → Below (length words) (pins_form parts words)
unfolding pins_form
pins_form_below parts words =
    below_ask (unless parts.has.pins) (λ once.
    below_bind (omega arith) (pins_below (parts_scope parts) words) (λ pins l. below_some _ pins.1 l))

blockages_form_below : (parts : DesignParts) (words : Words) → Below (length words) (blockages_form parts words)
unfolding blockages_form
blockages_form_below parts words =
    below_ask (unless parts.has.blockages) (λ once.
    below_bind (omega arith) (blockages_below parts.profile parts.design.library words) (λ blockages l. below_some _ blockages.1 l))

nets_section_below : (parts : DesignParts) (words : Words) → Below (length words) (nets_section_form parts words)
unfolding nets_section_form
nets_section_below parts words =
    below_bind (omega arith) (nets_below (parts_scope parts) false parts.design.special words) (λ nets l. below_some _ nets.1 l)

nets_form_below : (parts : DesignParts) (words : Words) → Below (length words) (nets_form parts words)
unfolding nets_form
nets_form_below parts words =
    below_ask (unless parts.has.nets) (λ once.
    below_either _ _ (nets_section_below parts words) (below_ask (turned_parts parts.profile parts words) (λ turned. nets_section_below turned words)))

special_section_below : (parts : DesignParts) (words : Words) → Below (length words) (special_section_form parts words)
unfolding special_section_form
special_section_below parts words =
    below_bind (omega arith) (nets_below (parts_scope parts) true parts.design.nets words) (λ special l. below_some _ special.1 l)

special_form_below : (parts : DesignParts) (words : Words) → Below (length words) (special_form parts words)
unfolding special_form
special_form_below parts words =
    below_ask (unless parts.has.special) (λ once.
    below_either _ _ (special_section_below parts words)
    (below_ask (turned_parts parts.profile parts words) (λ turned. special_section_below turned words)))

header_form_below : (parts : DesignParts) (words : Words) → Below (length words) (header_form parts words)
unfolding header_form
header_form_below parts words =
    below_if (is_at (codes "DIVIDERCHAR") words) (divider_form_below parts words)
    (below_if (is_at (codes "BUSBITCHARS") words) (bus_form_below parts words)
    (below_if (is_at (codes "DESIGN") words) (name_form_below parts words)
    (below_if (is_at (codes "UNITS") words) (units_form_below parts words)
    (below_if (is_at (codes "DIEAREA") words) (die_form_below parts words)
    (below_if (is_at (codes "ROW") words) (row_form_below parts words)
    (below_if (is_at (codes "TRACKS") words) (track_form_below parts words)
    (below_if (is_at (codes "NONDEFAULTRULES") words) (rules_form_below parts.profile parts words)
    (below_bind (omega arith) (past_form_below parts.profile words) (λ form l. below_some parts form.1 l)))))))))

pub form_shortens : Shortens def_form_at
unfolding def_form_at
form_shortens parts words =
    below_if (is_at (codes "VIAS") words) (vias_form_below parts words)
    (below_if (is_at (codes "COMPONENTS") words) (components_form_below parts words)
    (below_if (is_at (codes "PINS") words) (pins_form_below parts words)
    (below_if (is_at (codes "BLOCKAGES") words) (blockages_form_below parts words)
    (below_if (is_at (codes "SPECIALNETS") words) (special_form_below parts words)
    (below_if (is_at (codes "NETS") words) (nets_form_below parts words) (header_form_below parts words))))))

pub form_shorter : (parts more : DesignParts) (words rest : Words) → def_form_at parts words ≡ Some (more, rest) → length rest < length words
form_shorter parts more words rest said = (form_shortens parts words).left more rest said
