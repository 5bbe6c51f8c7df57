-- The rules that the words of one LEF state, with those of the LEFs before it.
use Rattle.std.specs.Prelude.{ℕ, Bool, true, false, ◌&&◌, if◌then◌else◌, List, [], ◌∷◌, drop, map, Option, None, Some, is_none, slice_get, slice_set, codes}
use Rattle.leg_lex.specs.Words.{Words, ◌>>=◌, is_at}
use Rattle.leg_lex.specs.Until.{until}
use Rattle.leg_lex.specs.NameLookup.{place_of}
use Rattle.leg_lib_records.specs.declared.records.Layer.{Layer}
use Rattle.leg_lib_records.specs.Records.{LibraryModel, layer_names}
use Rattle.leg_drc_rules.specs.Section.{SectionModel, section_at, statements_in, at_semicolon}
use Rattle.leg_drc_rules.specs.Amount.{amount_at}
use Rattle.leg_drc_rules.specs.Table.{at_no_word}
use Rattle.leg_drc_rules.specs.Records.{RawLayerRulesModel, RawDeckModel}
use Rattle.leg_drc_rules.specs.Rules.{rules_in}

-- before the first word
abbrev pub no_deck : LibraryModel → RawDeckModel
no_deck library = record { grid = None; layers = map (λ layer. None) library.layers }

-- a layer without a section so far
abbrev pub lacks_section : Option (Option RawLayerRulesModel) → Bool
lacks_section (Some None) = true
lacks_section found = false

-- the first section of a layer states its rules
unfoldable pub with_layer : RawDeckModel → ℕ → Option Layer → List Words → Option RawDeckModel
with_layer deck number None statements = Some deck
with_layer deck number (Some layer) statements =
    if lacks_section (slice_get deck.layers number)
    then (rules_in layer.kind statements >>= λ rules. Some (record deck { layers = slice_set deck.layers number (Some rules) }))
    else Some deck

-- a layer of this number, if the library has one of the name
abbrev pub with_number : LibraryModel → RawDeckModel → Option ℕ → List Words → Option RawDeckModel
with_number library deck None statements = Some deck
with_number library deck (Some number) statements = with_layer deck number (slice_get library.layers number) statements

unfoldable pub with_section : LibraryModel → RawDeckModel → SectionModel → Option RawDeckModel
with_section library deck section =
    with_number library deck (place_of section.name (layer_names library)) (statements_in section.words)

-- MANUFACTURINGGRID, any word and a semicolon (LEF/DEF 5.8, "Manufacturing Grid")
abbrev pub is_grid : Words → Bool
is_grid words = is_at (codes "MANUFACTURINGGRID") words && at_semicolon (drop 2 words)

-- outside of sections: the first grid, or a word without meaning
unfoldable pub word_form_at : RawDeckModel → Words → Option (RawDeckModel × Words)
word_form_at deck [] = None
word_form_at deck (word ∷ words) =
    if is_none deck.grid && is_grid (word ∷ words)
    then (amount_at words >>= λ grid. Some (record deck { grid = Some grid.0 }, grid.1)) else Some (deck, words)

-- a section that stands there, or else what is outside of sections
abbrev pub form_of : LibraryModel → RawDeckModel → Words → Option (SectionModel × Words) → Option (RawDeckModel × Words)
form_of library deck words (Some section) = with_section library deck section.0 >>= λ next. Some (next, section.1)
form_of library deck words None = word_form_at deck words

unfoldable pub form_at : LibraryModel → RawDeckModel → Words → Option (RawDeckModel × Words)
form_at library deck words = form_of library deck words (section_at words)

-- all words of a text, from its first word on
unfoldable pub deck_in : LibraryModel → RawDeckModel → Words → Option RawDeckModel
deck_in library deck words = do
  forms ← until at_no_word (form_at library) deck words
  Some forms.0
