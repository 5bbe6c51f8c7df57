-- Vias (LEF/DEF 5.8, "Via"; which of them are good, and that one whose shapes aren't read is kept by its name, are lefdef's own rules).
use Rattle.std.specs.Prelude.{ℕ, Bool, true, false, not, ◌&&◌, ◌||◌, if◌then◌else◌, List, [], ◌∷◌, ◌++◌, Option, None, Some, is_none, codes, drop}
use Rattle.leg_lex.specs.Words.{Words, ◌>>=◌, is_at, keyword_at, name_at, end_of, nothing_at}
use Rattle.leg_lex.specs.Until.{over}
use Rattle.leg_lex.specs.Statements.{statements_at}
use Rattle.leg_lex.specs.NameLookup.{place_of}
use Rattle.leg_lib_records.specs.declared.raw.RawShape.{RawShape}
use Rattle.leg_lib_records.specs.Records.{RawLibraryModel, RawViaModel, raw_layer_names, raw_via_names}
use Rattle.leg_grammar.specs.declared.profile.Profile.{Profile}
use Rattle.leg_grammar.specs.declared.profile.Profile.TheVariants.{Narrow, Wide}
use Rattle.leg_grammar.specs.Profiles.{is_wide}
use Rattle.leg_grammar.specs.Mask.{drops_masks}
use Rattle.leg_grammar.specs.Def.GeneratedVia.{is_generated}
use Rattle.leg_grammar.specs.Lef.Polygon.{is_read_polygon}
use Rattle.leg_grammar.specs.Lef.Geometry.{Drawn, nothing_drawn, on_layer, drawn_rect, drawn_polygon}
use Rattle.leg_grammar.specs.Lef.GeneratedVia.{raw_generated_shapes}
use Rattle.leg_lib_records.specs.Joins.{is_wiring_word, join_layers}
use Rattle.leg_lib_records.specs.GoodVia.{raw_uses, raw_parts}

-- the words between a via's name and its statements, each at most once and in any order
pub record Flags : Type 0 where
  pub is_default : Bool
  pub is_top_only : Bool
  pub is_generated : Bool

abbrev pub no_flags : Flags
no_flags = record { is_default = false; is_top_only = false; is_generated = false }

-- one more of these words, if one is next that did not appear before
unfoldable pub flag_at : Flags → Words → Flags × Words
flag_at flags words =
    if is_at (codes "DEFAULT") words && not flags.is_default then (record flags { is_default = true }, drop 1 words)
    else (if is_at (codes "TOPOFSTACKONLY") words && not flags.is_top_only then (record flags { is_top_only = true }, drop 1 words)
    else (if is_at (codes "GENERATED") words && not flags.is_generated then (record flags { is_generated = true }, drop 1 words)
    else (flags, words)))

-- there are three of them
unfoldable pub flags_at : Words → Flags × Words
flags_at words =
    let first = flag_at no_flags words in
    let second = flag_at first.0 first.1 in
    flag_at second.0 second.1

-- what the statements before gave: shapes, and whether there is a form that no good via has
pub record ViaParts : Type 0 where
  pub drawn : Drawn
  pub is_spoilt : Bool

abbrev pub no_via_parts : ViaParts
no_via_parts = record { drawn = nothing_drawn; is_spoilt = false }

-- LAYER NAME: the number of the layer
unfoldable pub layer_of_via : RawLibraryModel → Words → Option ℕ
layer_of_via library statement = do
  start ← keyword_at (codes "LAYER") statement
  name ← name_at start.1
  end ← nothing_at name.1
  place_of name.0 (raw_layer_names library)

-- VIARULE, POLYGON where it isn't read, and RECT MASK unless masks are dropped: a via of a rule or with such shapes isn't good
abbrev pub spoils : Profile → Words → Bool
spoils profile statement =
    is_at (codes "VIARULE") statement || (not (is_wide profile) && is_at (codes "POLYGON") statement)
    || (not (drops_masks profile) && is_at (codes "RECT") statement && is_at (codes "MASK") (drop 1 statement))

-- the shapes with those of a statement: where that can't be read, the via isn't good, and has none
abbrev pub with_drawn : ViaParts → Option Drawn → ViaParts
with_drawn parts None = record { drawn = record { on = parts.drawn.on; width = parts.drawn.width; shapes = [] }; is_spoilt = true }
with_drawn parts (Some drawn) = record parts { drawn = drawn }

-- one more statement
unfoldable pub via_part : Profile → RawLibraryModel → ViaParts → Words → Option ViaParts
via_part profile library parts statement =
    if spoils profile statement then Some (record parts { is_spoilt = true })
    else (if is_at (codes "LAYER") statement then
    (layer_of_via library statement >>= λ number. Some (record parts { drawn = on_layer parts.drawn number }))
    else (if is_at (codes "RECT") statement then (drawn_rect profile library parts.drawn statement >>= λ drawn. Some (record parts { drawn = drawn }))
    else (if is_read_polygon profile statement then Some (with_drawn parts (drawn_polygon profile library parts.drawn statement)) else Some parts)))

-- what the statements of a via with a VIARULE give: the shapes of the generated via, where it can be read
abbrev pub generated_parts : Option (List RawShape) → ViaParts
generated_parts None = record no_via_parts { is_spoilt = true }
generated_parts (Some shapes) = record no_via_parts { drawn = record { on = None; width = None; shapes = shapes } }

-- what all statements give: the wide profile takes generated vias too
unfoldable pub via_parts_in : Profile → RawLibraryModel → List Words → Option ViaParts
via_parts_in Narrow library statements = over (via_part Narrow library) no_via_parts statements
via_parts_in (Wide masks soft) library statements =
    if is_generated statements then Some (generated_parts (raw_generated_shapes library statements))
    else over (via_part (Wide masks soft) library) no_via_parts statements

abbrev pub is_good : RawLibraryModel → List ℕ → ViaParts → Bool
is_good library name parts =
    not parts.is_spoilt && not (is_wiring_word name)
    && join_layers (raw_uses library.layers) (raw_parts parts.drawn.shapes)

-- a via that isn't good is kept by its name, without shapes
abbrev pub kept : Bool → List RawShape → List RawShape
kept good shapes = if good then shapes else []

-- VIA NAME words statements END NAME
unfoldable pub via_at : Profile → RawLibraryModel → Words → Option (RawViaModel × Words)
via_at profile library words = do
  start ← keyword_at (codes "VIA") words
  name ← name_at start.1
  body ← statements_at (flags_at name.1).1
  parts ← via_parts_in profile library body.0
  end ← end_of name.0 body.1
  Some (
    record {
      name = name.0;
      default_via = (flags_at name.1).0.is_default;
      good = is_good library name.0 parts;
      shapes = kept (is_good library name.0 parts) parts.drawn.shapes;
    },
    end.1,
  )

-- a via's name is new
unfoldable pub with_via : Profile → RawLibraryModel → Words → Option (RawLibraryModel × Words)
with_via profile library words = do
  via ← via_at profile library words
  if is_none (place_of via.0.name (raw_via_names library))
      then Some (record library { vias = library.vias ++ via.0 ∷ [] }, via.1) else None
