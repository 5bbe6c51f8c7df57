-- What is read past takes a word at least.
use Rattle.std.proofs.Common.{ℕ, ◌||◌, List, length, codes, arith}
use Rattle.leg_lex.specs.Words.{Words, is_at, end_at, end_of}
use Rattle.leg_lex.proofs.Until.{Below, below_some, below_bind, below_more, below_if}
use Rattle.leg_lex.proofs.Shorter.{next_below, keyword_below, name_below, end_below, end_of_below}
use Rattle.leg_lex.proofs.Statements.{statement_below}
use Rattle.leg_lex.proofs.ReadPast.{past_below, past_extension_below}
use Rattle.leg_grammar.specs.Lef.SkippedForms.{past_named, past_lef_section, past_statement, past_lef_form}

past_named_below : (words : Words) → Below (length words) (past_named words)
unfolding past_named
past_named_below words =
    below_bind (omega arith) (next_below words) (λ start less.
    below_bind (omega arith) (name_below start.1) (λ name fewer.
    below_more (omega arith) (past_below (end_of name.0) (end_of_below name.0) name.1)))

pub past_section_below : (keyword : List ℕ) (words : Words) → Below (length words) (past_lef_section keyword words)
unfolding past_lef_section
past_section_below keyword words =
    below_bind (omega arith) (keyword_below keyword words) (λ start less.
    below_more (omega arith) (past_below (end_at keyword) (end_below keyword) start.1))

pub past_statement_below : (words : Words) → Below (length words) (past_statement words)
unfolding past_statement
past_statement_below words =
    below_bind (omega arith) (statement_below words) (λ statement less. below_some tt statement.1 less)

pub past_form_below : (words : Words) → Below (length words) (past_lef_form words)
unfolding past_lef_form
past_form_below words =
    below_if (is_at (codes "VIARULE") words || is_at (codes "NONDEFAULTRULE") words) (past_named_below words)
    (below_if (is_at (codes "UNITS") words) (past_section_below (codes "UNITS") words)
    (below_if (is_at (codes "PROPERTYDEFINITIONS") words) (past_section_below (codes "PROPERTYDEFINITIONS") words)
    (below_if (is_at (codes "SPACING") words) (past_section_below (codes "SPACING") words)
    (below_if (is_at (codes "BEGINEXT") words) (past_extension_below words)
    (past_statement_below words)))))
