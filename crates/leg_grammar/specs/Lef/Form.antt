-- The forms of a LEF text (LEF/DEF 5.8, "LEF Syntax").
use Rattle.std.specs.Prelude.{Bool, true, if◌then◌else◌, [], ◌∷◌, Option, Some, codes}
use Rattle.leg_lex.specs.Words.{Words, ◌>>=◌, is_keyword, is_at, end_at, nothing_at}
use Rattle.leg_lex.specs.Until.{until}
use Rattle.leg_lib_records.specs.Records.{RawLibraryModel, empty_library}
use Rattle.leg_grammar.specs.declared.profile.Profile.{Profile}
use Rattle.leg_grammar.specs.Lef.Layer.{with_layer}
use Rattle.leg_grammar.specs.Lef.Via.{with_via}
use Rattle.leg_grammar.specs.Lef.Site.{with_site}
use Rattle.leg_grammar.specs.Lef.MacroSkip.{with_macro}
use Rattle.leg_grammar.specs.Lef.Rule.{is_at_rule, with_rule}
use Rattle.leg_grammar.specs.Lef.SkippedForms.{past_lef_form}

-- one form of a library, which adds to what was read before it
unfoldable pub library_form_at : Profile → RawLibraryModel → Words → Option (RawLibraryModel × Words)
library_form_at profile library words =
    if is_at (codes "LAYER") words then with_layer library words
    else (if is_at (codes "VIA") words then with_via profile library words
    else (if is_at (codes "SITE") words then with_site library words
    else (if is_at (codes "MACRO") words then with_macro profile library words
    else (if is_at_rule profile words then with_rule profile library words
    else (past_lef_form words >>= λ form. Some (library, form.1))))))

-- What the forms before gave: a library. The profile in which they are read stays the same.
pub record LefParts : Type 0 where
  pub profile : Profile
  pub library : RawLibraryModel

-- before the first form
abbrev pub no_lef_parts : Profile → LefParts
no_lef_parts profile = record { profile = profile; library = empty_library }

-- one form
unfoldable pub lef_form_at : LefParts → Words → Option (LefParts × Words)
lef_form_at parts words = do
  form ← library_form_at parts.profile parts.library words
  Some (record parts { library = form.0 }, form.1)

-- where the forms end: at the text's end, or at an END in a form's place
abbrev pub at_last : Words → Bool
at_last [] = true
at_last (word ∷ words) = is_keyword (codes "END") word

-- nothing, or END LIBRARY and nothing after it
abbrev pub ended : Words → Option (Unit {0})
ended [] = Some tt
ended (word ∷ words) = end_at (codes "LIBRARY") (word ∷ words) >>= λ end. nothing_at end.1

-- a text adds its forms to those of the texts before it
unfoldable pub lef_in : LefParts → Words → Option LefParts
lef_in parts words = do
  forms ← until at_last lef_form_at parts words
  end ← ended forms.1
  Some forms.0
