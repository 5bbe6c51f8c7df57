-- Statements take words.
use Rattle.std.proofs.Common.{◌≡◌, ℕ, suc, ◌<◌, Bool, List, [], ◌∷◌, ◌++◌, length, Some, arith}
use Rattle.leg_lex.specs.Words.{Words}
use Rattle.leg_lex.specs.Statements.{is_semicolon, up_to, statement_at, one_statement, statements_at, at_end}
use Rattle.leg_lex.proofs.Until.{Below, Shortens, below_none, below_some, below_bind, below_if, until_below}

pub up_to_below : (ends : List ℕ → Bool) (words : Words) → Below (length words) (up_to ends words)
unfolding up_to
up_to_below ends [] = below_none 0
up_to_below ends (word ∷ words) =
    below_if (ends word)
    (below_some [] words (omega arith))
    (below_bind (omega arith) (up_to_below ends words) (λ others less. below_some (word ∷ others.0) others.1 less))

pub statement_below : (words : Words) → Below (length words) (statement_at words)
unfolding statement_at
statement_below words = up_to_below is_semicolon words

pub statement_shorter : (words : Words) (statement : Words) (rest : Words) → statement_at words ≡ Some (statement, rest) → length rest < length words
statement_shorter words statement rest said = (statement_below words).left statement rest said

pub one_shortens : Shortens one_statement
unfolding one_statement
one_shortens statements words =
    below_bind (omega arith) (statement_below words) (λ next less. below_some (statements ++ next.0 ∷ []) next.1 less)

-- the statements of a block may be none
pub statements_below : (words : Words) → Below (suc (length words)) (statements_at words)
unfolding statements_at
statements_below words = until_below at_end one_statement one_shortens [] words
