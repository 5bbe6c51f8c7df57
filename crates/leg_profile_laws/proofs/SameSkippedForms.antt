-- What is read past in the narrow profile is read past in each.
use Rattle.std.proofs.Common.{Some, codes}
use Rattle.leg_lex.specs.Words.{Words, ◌>>=◌, is_at}
use Rattle.leg_lex.specs.Past.{past_extension}
use Rattle.leg_lex.specs.Statements.{statement_at}
use Rattle.leg_grammar.specs.declared.profile.Profile.{Profile}
use Rattle.leg_grammar.specs.declared.profile.Profile.TheVariants.{Narrow}
use Rattle.leg_grammar.specs.Def.SkippedForms.{is_past_statement, is_past_section, past_def_section, past_def_form}
use Rattle.leg_profile_laws.proofs.Keeps.{Keeps, keeps_none, keeps_itself, keeps_if}

-- What the narrow profile reads past.
pub skipped_keeps : (profile : Profile) (words : Words) → Keeps (past_def_form Narrow words) (past_def_form profile words)
unfolding past_def_form
skipped_keeps profile words =
    keeps_if (is_past_statement words) (keeps_itself (statement_at words >>= λ statement. Some (tt, statement.1)))
    (keeps_if (is_past_section words) (keeps_itself (past_def_section words))
    (keeps_if (is_at (codes "BEGINEXT") words) (keeps_itself (past_extension words)) (keeps_none _)))
