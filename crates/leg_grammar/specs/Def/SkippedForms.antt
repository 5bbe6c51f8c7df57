-- What is read past of a DEF text (lefdef's own rule).
use Rattle.std.specs.Prelude.{Bool, ◌&&◌, ◌||◌, if◌then◌else◌, [], ◌∷◌, Option, None, Some, codes}
use Rattle.leg_lex.specs.Words.{Words, ◌>>=◌, is_at, end_at}
use Rattle.leg_lex.specs.Past.{past, past_extension}
use Rattle.leg_lex.specs.Statements.{statement_at}
use Rattle.leg_grammar.specs.declared.profile.Profile.{Profile}
use Rattle.leg_grammar.specs.Mask.{drops_masks}

-- statements without effect
abbrev pub is_past_statement : Words → Bool
is_past_statement words =
    is_at (codes "VERSION") words || is_at (codes "NAMESCASESENSITIVE") words || is_at (codes "TECHNOLOGY") words
    || is_at (codes "HISTORY") words || is_at (codes "GCELLGRID") words

-- sections without effect, up to END and the same word
abbrev pub is_past_section : Words → Bool
is_past_section words =
    is_at (codes "PROPERTYDEFINITIONS") words || is_at (codes "REGIONS") words || is_at (codes "FILLS") words
    || is_at (codes "SLOTS") words || is_at (codes "STYLES") words || is_at (codes "SCANCHAINS") words
    || is_at (codes "GROUPS") words || is_at (codes "PINPROPERTIES") words

unfoldable pub past_def_section : Words → Option (Unit {0} × Words)
past_def_section [] = None
past_def_section (keyword ∷ words) = past (end_at keyword) words

-- what is read past; which layers have masks that a component shifts, only where masks are read past
unfoldable pub past_def_form : Profile → Words → Option (Unit {0} × Words)
past_def_form profile words =
    if is_past_statement words then (statement_at words >>= λ statement. Some (tt, statement.1))
    else (if is_past_section words then past_def_section words
    else (if is_at (codes "BEGINEXT") words then past_extension words
    else (if drops_masks profile && is_at (codes "COMPONENTMASKSHIFT") words then (statement_at words >>= λ statement. Some (tt, statement.1))
    else None)))
