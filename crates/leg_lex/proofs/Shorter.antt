-- Each form of one word or more takes a word.
use Rattle.std.proofs.Common.{ℕ, ◌<◌, List, [], ◌∷◌, length, Result, Ok, Err, ℤ, codes, arith}
use Rattle.std.specs.Str.{bytes_eq}
use Rattle.leg_lex.specs.Number.{whole_of}
use Rattle.leg_lex.specs.Words.{Words, is_keyword, is_name, is_word, next_at, keyword_at, mark_at, name_at, word_at, said_number, whole_at, end_at, end_of}
use Rattle.leg_lex.proofs.Until.{Below, below_none, below_some, below_bind, below_if, below_more}

pub next_below : (words : Words) → Below (length words) (next_at words)
unfolding next_at
next_below [] = below_none 0
next_below (word ∷ words) = below_some word words (omega arith)

pub keyword_below : (keyword : List ℕ) (words : Words) → Below (length words) (keyword_at keyword words)
unfolding keyword_at
keyword_below keyword words =
    below_bind (omega arith) (next_below words) (λ next less. below_if (is_keyword keyword next.0) (below_some tt next.1 less) (below_none (length words)))

pub mark_below : (mark : ℕ) (words : Words) → Below (length words) (mark_at mark words)
unfolding mark_at
mark_below mark words =
    below_bind (omega arith) (next_below words) (λ next less. below_if (bytes_eq next.0 (mark ∷ [])) (below_some tt next.1 less) (below_none (length words)))

pub name_below : (words : Words) → Below (length words) (name_at words)
unfolding name_at
name_below words =
    below_bind (omega arith) (next_below words) (λ next less. below_if (is_name next.0) (below_some next.0 next.1 less) (below_none (length words)))

pub word_below : (words : Words) → Below (length words) (word_at words)
unfolding word_at
word_below words =
    below_bind (omega arith) (next_below words) (λ next less. below_if (is_word next.0) (below_some next.0 next.1 less) (below_none (length words)))

-- a number leaves the words that it is given
said_number_below : {E : Type 0} {n : ℕ} (number : Result ℤ E) (words : Words) → length words < n → Below n (said_number number words)
said_number_below (Ok z) words less = below_some z words less
said_number_below {n = n} (Err fault) words less = below_none n

pub whole_below : (words : Words) → Below (length words) (whole_at words)
unfolding whole_at
whole_below words =
    below_bind (omega arith) (next_below words) (λ next less. said_number_below (whole_of next.0) next.1 less)

pub end_of_below : (name : List ℕ) (words : Words) → Below (length words) (end_of name words)
unfolding end_of
end_of_below name words =
    below_bind (omega arith) (keyword_below (codes "END") words) (λ end less.
    below_bind (omega arith) (name_below end.1) (λ named fewer.
    below_if (bytes_eq named.0 name) (below_some tt named.1 fewer) (below_none (length words))))

pub end_below : (keyword : List ℕ) (words : Words) → Below (length words) (end_at keyword words)
unfolding end_at
end_below keyword words =
    below_bind (omega arith) (keyword_below (codes "END") words) (λ end less. below_more (omega arith) (keyword_below keyword end.1))
