-- A row that is dropped takes words.
use Rattle.std.proofs.Common.{◌≡◌, List, [], length, None, refl, arith}
use Rattle.leg_lex.specs.Words.{Words, keyword_at, next_at}
use Rattle.leg_lex.specs.Statements.{clauses_of}
use Rattle.leg_lex.proofs.Statements.{statement_below}
use Rattle.leg_lex.proofs.Until.{Below, below_some, below_bind, below_ask}
use Rattle.leg_lib_records.specs.Records.{LibraryModel}
use Rattle.leg_grammar.specs.Def.Row.{head_of}
use Rattle.leg_grammar.specs.Def.DroppedRow.{dropped_site_in, dropped_row_at}

-- Without words no row is dropped.
pub no_head : (library : LibraryModel) (clauses : List Words) → clauses ≡ [] → dropped_site_in library (head_of clauses) ≡ None
unfolding dropped_site_in keyword_at next_at
no_head library clauses none = rw none refl

pub dropped_row_below : (library : LibraryModel) (words : Words) → Below (length words) (dropped_row_at library words)
unfolding dropped_row_at
dropped_row_below library words =
    below_bind (omega arith) (statement_below words) (λ statement less.
    below_ask (dropped_site_in library (head_of (clauses_of statement.0))) (λ site.
    below_some site statement.1 less))
