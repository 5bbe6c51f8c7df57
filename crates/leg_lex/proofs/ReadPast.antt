-- What is read past: what a loop that looks for a form needs.
use Rattle.std.proofs.Common.{◌≡◌, ℕ, suc, ◌<◌, Bool, true, false, List, [], ◌∷◌, length, Option, None, Some, is_some, codes, refl, sym, ap, ◌∙◌, arith}
use Rattle.std.specs.Option.{option_or}
use Rattle.std.proofs.lemmas.Bool.{false≢true}
use Rattle.leg_lex.specs.Words.{Words, is_at, is_keyword, next_at, keyword_at}
use Rattle.leg_lex.specs.Past.{past, past_extension}
use Rattle.leg_lex.proofs.Parts.{rest_is}
use Rattle.leg_lex.proofs.Until.{Below, below_bind, below_more}
use Rattle.leg_lex.proofs.Shorter.{next_below, keyword_below}

some_first : {X : Type 0} (o p : Option X) → is_some o ≡ true → option_or o p ≡ o
some_first None p some = absurd (false≢true some)
some_first (Some x) p some = refl

none_first : {X : Type 0} (o p : Option X) → is_some o ≡ false → option_or o p ≡ p
none_first None p none = refl
none_first (Some x) p none = absurd (false≢true (sym none))

module _ {Y : Type 0} (form : Words → Option (Y × Words)) where
  -- The form stands here.
  pub past_here : (words : Words) → is_some (form words) ≡ true → past form words ≡ form words
  unfolding past
  past_here [] some = refl
  past_here (word ∷ words) some = some_first (form (word ∷ words)) (past form words) some

  -- The form doesn't stand here, and a word is read past.
  pub past_later : (words : Words) (word : List ℕ) (rest : Words) → next_at words ≡ Some (word, rest) → is_some (form words) ≡ false
      → past form words ≡ past form rest
  unfolding past next_at
  past_later [] word rest next none = absurd (let f : ⊥ = cc in f)
  past_later (first ∷ words) word rest next none =
      none_first (form (first ∷ words)) (past form words) none ∙ ap (past form) (rest_is first word words rest next)

  -- The words end before the form stands anywhere.
  pub past_nowhere : (words : Words) → next_at words ≡ None → is_some (form words) ≡ false → past form words ≡ None
  unfolding past next_at
  past_nowhere [] next none = by (form []) none where
    by : (said : Option (Y × Words)) → is_some said ≡ false → said ≡ None
    by None none = refl
    by (Some there) none = absurd (false≢true (sym none))
  past_nowhere (first ∷ words) next none = absurd (let f : ⊥ = cc in f)

  -- What is read past takes as many words as the form at least.
  pub past_below : ((words : Words) → Below (length words) (form words)) → (words : Words) → Below (length words) (past form words)
  unfolding past
  past_below below [] = below []
  past_below below (word ∷ words) = by (below (word ∷ words)) (past_below below words) (form (word ∷ words)) refl where
    by : Below (suc (length words)) (form (word ∷ words)) → Below (length words) (past form words) → (said : Option (Y × Words)) → form (word ∷ words) ≡ said
        → Below (suc (length words)) (option_or (form (word ∷ words)) (past form words))
    by here there None is = rw is (below_more (omega arith) there)
    by here there (Some y) is = rw is (rw is at here)

pub next_shorter : (words : Words) (word : List ℕ) (rest : Words) → next_at words ≡ Some (word, rest) → length rest < length words
next_shorter words word rest said = (next_below words).left word rest said

-- whether a keyword stands there
pub keyword_is_there : (keyword : List ℕ) (words : Words) → is_some (keyword_at keyword words) ≡ is_at keyword words
unfolding keyword_at next_at
keyword_is_there keyword [] = refl
keyword_is_there keyword (word ∷ words) = by (is_keyword keyword word) refl where
  by : (here : Bool) → is_keyword keyword word ≡ here → is_some (keyword_at keyword (word ∷ words)) ≡ is_keyword keyword word
  by true here = rw here refl
  by false here = rw here refl

pub keyword_here : (keyword : List ℕ) (words : Words) → is_at keyword words ≡ true → past (keyword_at keyword) words ≡ keyword_at keyword words
keyword_here keyword words there = past_here (keyword_at keyword) words (keyword_is_there keyword words ∙ there)

pub keyword_later : (keyword : List ℕ) (words : Words) (word : List ℕ) (rest : Words) → next_at words ≡ Some (word, rest) → is_at keyword words ≡ false
    → past (keyword_at keyword) words ≡ past (keyword_at keyword) rest
keyword_later keyword words word rest next other =
    past_later (keyword_at keyword) words word rest next (keyword_is_there keyword words ∙ other)

pub keyword_nowhere : (keyword : List ℕ) (words : Words) → next_at words ≡ None → is_at keyword words ≡ false → past (keyword_at keyword) words ≡ None
keyword_nowhere keyword words next other =
    past_nowhere (keyword_at keyword) words next (keyword_is_there keyword words ∙ other)

-- An extension takes a word at least.
pub past_extension_below : (words : Words) → Below (length words) (past_extension words)
unfolding past_extension
past_extension_below words =
    below_bind (omega arith) (keyword_below (codes "BEGINEXT") words) (λ start less.
    below_more (omega arith) (past_below (keyword_at (codes "ENDEXT")) (keyword_below (codes "ENDEXT")) start.1))
