-- What the forms of a LEF leave in the narrow profile has no forms of which the wide profile makes more, where the words before have none.
use Rattle.std.proofs.Common.{ℕ, ◌||◌, List, map, is_none, codes}
use Rattle.leg_lex.specs.Words.{Words, ◌>>=◌, is_at, keyword_at, end_at, end_of}
use Rattle.leg_lex.specs.Until.{over}
use Rattle.leg_lex.specs.Past.{past}
use Rattle.leg_lex.specs.Statements.{at_end, only, the}
use Rattle.leg_lex.specs.NameLookup.{place_of}
use Rattle.leg_lex.proofs.Gives.{gives_none, gives_some, gives_bind, gives_skip, gives_if}
use Rattle.leg_lib_records.specs.Records.{RawLibraryModel, raw_layer_names, raw_via_names, raw_master_names}
use Rattle.leg_grammar.specs.declared.profile.Profile.{Profile}
use Rattle.leg_grammar.specs.declared.profile.Profile.TheVariants.{Narrow}
use Rattle.leg_grammar.specs.Lef.Point.{size_in}
use Rattle.leg_grammar.specs.Lef.Geometry.{nothing_drawn, geometry_part, geometry_at}
use Rattle.leg_grammar.specs.Lef.Layer.{kind_in, spacing_of, layer_at, with_layer}
use Rattle.leg_grammar.specs.Lef.Site.{site_named, add_site, site_at, with_site}
use Rattle.leg_grammar.specs.Lef.Via.{flags_at, via_parts_in, via_at, with_via}
use Rattle.leg_grammar.specs.Lef.Pin.{PinParts, no_pin_parts, port_at, pin_part, supply_of_any, pin_at}
use Rattle.leg_grammar.specs.Lef.Macro.{MacroParts, no_macro_parts, macro_pin, macro_obstruction, macro_density, macro_timing, macro_statement, macro_part, macro_said, macro_at, with_master}
use Rattle.leg_grammar.specs.Lef.MacroSkip.{with_macro}
use Rattle.leg_grammar.specs.Lef.SkippedForms.{past_named, past_lef_section, past_statement, past_lef_form}
use Rattle.leg_grammar.specs.Lef.Form.{library_form_at}
use Rattle.leg_profile_laws.proofs.PlainWords.{ArePlain, Leaves, next_plain, keyword_plain, name_plain, end_at_plain, end_of_plain, statement_plain, statements_plain, past_plain, extension_plain, steps_give}
use Rattle.leg_profile_laws.proofs.SameLefVias.{flags_plain}

-- What is read past.
skipped_leaves : (profile : Profile) (words : Words) → ArePlain profile words → Leaves profile (past_lef_form words)
unfolding past_lef_form past_named past_lef_section past_statement
skipped_leaves profile words plain =
    gives_if (is_at (codes "VIARULE") words || is_at (codes "NONDEFAULTRULE") words)
    (gives_bind (next_plain words plain) (λ start left.
    gives_bind (name_plain start.1 left) (λ name after. past_plain (end_of name.0) (end_of_plain name.0) name.1 after)))
    (gives_if (is_at (codes "UNITS") words) (section (codes "UNITS"))
    (gives_if (is_at (codes "PROPERTYDEFINITIONS") words) (section (codes "PROPERTYDEFINITIONS"))
    (gives_if (is_at (codes "SPACING") words) (section (codes "SPACING"))
    (gives_if (is_at (codes "BEGINEXT") words) (extension_plain words plain)
    (gives_bind (statement_plain words plain) (λ statement cut. gives_some (tt, statement.1) cut.1)))))) where
      section : (keyword : List ℕ) → Leaves profile (keyword_at keyword words >>= λ start. past (end_at keyword) start.1)
      section keyword = gives_bind (keyword_plain keyword words plain) (λ start left. past_plain (end_at keyword) (end_at_plain keyword) start.1 left)

module _ (profile : Profile) (library : RawLibraryModel) where
  layer_leaves : (words : Words) → ArePlain profile words → Leaves profile (with_layer library words)
  unfolding with_layer layer_at
  layer_leaves words plain =
      gives_bind (
      gives_bind (keyword_plain (codes "LAYER") words plain) (λ start left.
      gives_bind (name_plain start.1 left) (λ name after.
      gives_bind (statements_plain name.1 after) (λ body cut.
      gives_skip (kind_in body.0) (λ kind.
      gives_skip (spacing_of body.0) (λ spacing.
      gives_bind (end_of_plain name.0 body.1 cut.left) (λ end last. gives_some _ last))))))) (λ layer left.
      gives_if (is_none (place_of layer.0.name (raw_layer_names library))) (gives_some _ left) gives_none)

  via_leaves : (words : Words) → ArePlain profile words → Leaves profile (with_via Narrow library words)
  unfolding with_via via_at
  via_leaves words plain =
      gives_bind (
      gives_bind (keyword_plain (codes "VIA") words plain) (λ start left.
      gives_bind (name_plain start.1 left) (λ name after.
      gives_bind (statements_plain (flags_at name.1).1 (flags_plain name.1 after)) (λ body cut.
      gives_skip (via_parts_in Narrow library body.0) (λ parts.
      gives_bind (end_of_plain name.0 body.1 cut.left) (λ end last. gives_some _ last)))))) (λ via left.
      gives_if (is_none (place_of via.0.name (raw_via_names library))) (gives_some _ left) gives_none)

  site_leaves : (words : Words) → ArePlain profile words → Leaves profile (with_site library words)
  unfolding with_site site_at
  site_leaves words plain =
      gives_bind (
      gives_bind (keyword_plain (codes "SITE") words plain) (λ start left.
      gives_bind (name_plain start.1 left) (λ name after.
      gives_bind (statements_plain name.1 after) (λ body cut.
      gives_skip (the (codes "SIZE") body.0) (λ statement.
      gives_skip (size_in statement) (λ size.
      gives_bind (end_of_plain name.0 body.1 cut.left) (λ end last. gives_some _ last))))))) (λ site left.
      gives_skip (add_site (site_named site.0.name library) site.0 library) (λ added. gives_some (added, site.1) left))

  geometry_leaves : (words : Words) → ArePlain profile words → Leaves profile (geometry_at Narrow library words)
  unfolding geometry_at
  geometry_leaves words plain =
      gives_bind (statements_plain words plain) (λ body cut.
      gives_skip (over (geometry_part Narrow library) nothing_drawn body.0) (λ drawn.
      gives_some (drawn.shapes, body.1) cut.left))

  port_leaves : (words : Words) → ArePlain profile words → Leaves profile (port_at Narrow library words)
  unfolding port_at
  port_leaves words plain =
      gives_bind (keyword_plain (codes "PORT") words plain) (λ start left.
      gives_bind (geometry_leaves start.1 left) (λ shapes after.
      gives_bind (keyword_plain (codes "END") shapes.1 after) (λ end last. gives_some (shapes.0, end.1) last)))

  pin_part_leaves : (parts : PinParts) (words : Words) → ArePlain profile words → Leaves profile (pin_part Narrow library parts words)
  unfolding pin_part
  pin_part_leaves parts words plain =
      gives_if (is_at (codes "PORT") words) (gives_bind (port_leaves words plain) (λ port left. gives_some _ left))
      (gives_bind (statement_plain words plain) (λ statement cut. gives_some _ cut.1))

  pin_leaves : (words : Words) → ArePlain profile words → Leaves profile (pin_at Narrow library words)
  unfolding pin_at
  pin_leaves words plain =
      gives_bind (keyword_plain (codes "PIN") words plain) (λ start left.
      gives_bind (name_plain start.1 left) (λ name after.
      gives_bind (steps_give (λ made rest. ArePlain profile rest) at_end (pin_part Narrow library) pin_part_leaves _ no_pin_parts name.1 after) (λ parts behind.
      gives_skip (only (codes "USE") parts.0.statements) (λ found.
      gives_skip (supply_of_any found) (λ supply.
      gives_bind (end_of_plain name.0 parts.1 behind) (λ end last. gives_some _ last))))))

  part_leaves : (parts : MacroParts) (words : Words) → ArePlain profile words → Leaves profile (macro_part Narrow library parts words)
  unfolding macro_part macro_pin macro_obstruction macro_density macro_timing macro_statement
  part_leaves parts words plain =
      gives_if (is_at (codes "PIN") words)
      (gives_bind (pin_leaves words plain) (λ pin left.
      gives_if (is_none (place_of pin.0.name (map (λ p. p.name) parts.pins))) (gives_some _ left) gives_none))
      (gives_if (is_at (codes "OBS") words)
      (gives_bind (keyword_plain (codes "OBS") words plain) (λ start left.
      gives_bind (geometry_leaves start.1 left) (λ shapes after.
      gives_bind (keyword_plain (codes "END") shapes.1 after) (λ end last. gives_some _ last))))
      (gives_if (is_at (codes "DENSITY") words)
      (gives_bind (keyword_plain (codes "DENSITY") words plain) (λ start left.
      gives_bind (past_plain (keyword_at (codes "END")) (keyword_plain (codes "END")) start.1 left) (λ end last. gives_some _ last)))
      (gives_if (is_at (codes "TIMING") words)
      (gives_bind (keyword_plain (codes "TIMING") words plain) (λ start left.
      gives_bind (past_plain (end_at (codes "TIMING")) (end_at_plain (codes "TIMING")) start.1 left) (λ end last. gives_some _ last)))
      (gives_bind (statement_plain words plain) (λ statement cut. gives_some _ cut.1)))))

  macro_leaves : (words : Words) → ArePlain profile words → Leaves profile (with_macro Narrow library words)
  unfolding with_macro with_master macro_at
  macro_leaves words plain =
      gives_bind (
      gives_bind (keyword_plain (codes "MACRO") words plain) (λ start left.
      gives_bind (name_plain start.1 left) (λ name after.
      gives_bind (steps_give (λ made rest. ArePlain profile rest) at_end (macro_part Narrow library) part_leaves _ no_macro_parts name.1 after) (λ parts behind.
      gives_skip (macro_said library parts.0.statements) (λ said.
      gives_bind (end_of_plain name.0 parts.1 behind) (λ end last. gives_some _ last)))))) (λ master left.
      gives_if (is_none (place_of master.0.name (raw_master_names library))) (gives_some _ left) gives_none)

  -- One form.
  pub form_leaves : (words : Words) → ArePlain profile words → Leaves profile (library_form_at Narrow library words)
  unfolding library_form_at
  form_leaves words plain =
      gives_if (is_at (codes "LAYER") words) (layer_leaves words plain)
      (gives_if (is_at (codes "VIA") words) (via_leaves words plain)
      (gives_if (is_at (codes "SITE") words) (site_leaves words plain)
      (gives_if (is_at (codes "MACRO") words) (macro_leaves words plain)
      (gives_bind (skipped_leaves profile words plain) (λ form left. gives_some (library, form.1) left)))))
