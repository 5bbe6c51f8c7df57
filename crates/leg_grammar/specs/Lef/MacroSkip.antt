-- Macros that the wide profile leaves out (lefdef's own rule).
use Rattle.std.specs.Prelude.{ℕ, if◌then◌else◌, List, Option, None, Some, is_none, codes}
use Rattle.std.specs.Option.{option_or}
use Rattle.leg_lex.specs.Words.{Words, ◌>>=◌, keyword_at, name_at, end_of}
use Rattle.leg_lex.specs.Past.{past}
use Rattle.leg_lex.specs.NameLookup.{place_of}
use Rattle.leg_lib_records.specs.Records.{RawLibraryModel, raw_master_names}
use Rattle.leg_grammar.specs.declared.profile.Profile.{Profile}
use Rattle.leg_grammar.specs.declared.profile.Profile.TheVariants.{Narrow, Wide}
use Rattle.leg_grammar.specs.Lef.Macro.{with_master}

-- MACRO NAME .. END NAME, whatever is between them, up to the first END with that name: the name
unfoldable pub past_macro : Words → Option (List ℕ × Words)
past_macro words = do
  start ← keyword_at (codes "MACRO") words
  name ← name_at start.1
  end ← past (end_of name.0) name.1
  Some (name.0, end.1)

-- a macro that adds nothing, if its name is new
unfoldable pub without_macro : RawLibraryModel → Words → Option (RawLibraryModel × Words)
without_macro library words = do
  name ← past_macro words
  if is_none (place_of name.0 (raw_master_names library)) then Some (library, name.1) else None

-- a macro; in the wide profile one that cannot be read is left out
unfoldable pub with_macro : Profile → RawLibraryModel → Words → Option (RawLibraryModel × Words)
with_macro Narrow library words = with_master Narrow library words
with_macro (Wide masks soft) library words = option_or (with_master (Wide masks soft) library words) (without_macro library words)
