-- Macros that the wide profile leaves out: each takes a word at least.
use Rattle.std.proofs.Common.{ℕ, length, Option, None, Some, is_none, codes, arith}
use Rattle.std.specs.Option.{option_or}
use Rattle.leg_lex.specs.Words.{Words, end_of}
use Rattle.leg_lex.specs.NameLookup.{place_of}
use Rattle.leg_lex.proofs.Until.{Below, below_none, below_some, below_bind, below_if}
use Rattle.leg_lex.proofs.Shorter.{keyword_below, name_below, end_of_below}
use Rattle.leg_lex.proofs.ReadPast.{past_below}
use Rattle.leg_lib_records.specs.Records.{RawLibraryModel, raw_master_names}
use Rattle.leg_grammar.specs.declared.profile.Profile.{Profile}
use Rattle.leg_grammar.specs.declared.profile.Profile.TheVariants.{Narrow, Wide}
use Rattle.leg_grammar.specs.Lef.MacroSkip.{past_macro, without_macro, with_macro}
use Rattle.leg_lib.proofs.MacroForms.{with_master_below}

past_macro_below : (words : Words) → Below (length words) (past_macro words)
unfolding past_macro
past_macro_below words =
    below_bind (omega arith) (keyword_below (codes "MACRO") words) (λ start less.
    below_bind (omega arith) (name_below start.1) (λ name fewer.
    below_bind (omega arith) (past_below (end_of name.0) (end_of_below name.0) name.1) (λ end last.
    below_some name.0 end.1 last)))

without_macro_below : (library : RawLibraryModel) (words : Words) → Below (length words) (without_macro library words)
unfolding without_macro
without_macro_below library words =
    below_bind (omega arith) (past_macro_below words) (λ name less.
    below_if (is_none (place_of name.0 (raw_master_names library))) (below_some library name.1 less) (below_none (length words)))

-- one of two forms
below_either : {Y : Type 0} {n : ℕ} (said other : Option (Y × Words)) → Below n said → Below n other → Below n (option_or said other)
below_either None other a b = b
below_either (Some x) other a b = a

pub with_macro_below : (profile : Profile) (library : RawLibraryModel) (words : Words) → Below (length words) (with_macro profile library words)
unfolding with_macro
with_macro_below Narrow library words = with_master_below Narrow library words
with_macro_below (Wide masks soft) library words =
    below_either _ _ (with_master_below (Wide masks soft) library words) (without_macro_below library words)
