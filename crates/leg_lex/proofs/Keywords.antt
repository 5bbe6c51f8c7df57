-- What a keyword leaves where it stands.
use Rattle.std.proofs.Common.{◌≡◌, ℕ, Bool, true, false, List, [], ◌∷◌, drop, None, Some, refl, sym}
use Rattle.std.proofs.lemmas.Bool.{true≢false}
use Rattle.leg_lex.specs.Words.{Words, is_keyword, is_at, next_at, keyword_at}
use Rattle.leg_lex.proofs.Parts.{rest_is}

-- A keyword that stands there is read,
pub read_past : (keyword : List ℕ) (words : Words) (x : Unit {0}) (rest : Words) → keyword_at keyword words ≡ Some (x, rest) → rest ≡ drop 1 words
unfolding keyword_at next_at
read_past keyword [] x rest said = absurd (let e : ⊥ = cc in e)
read_past keyword (word ∷ words) x rest said = by (is_keyword keyword word) refl where
  by : (test : Bool) → is_keyword keyword word ≡ test → rest ≡ words
  by true is = sym (rest_is tt x words rest (rw is at said))
  by false is = absurd (let e : ⊥ = cc (rw is at said) in e)

-- and not refused.
pub surely_read : (keyword : List ℕ) (words : Words) → is_at keyword words ≡ true → keyword_at keyword words ≡ None → ⊥
unfolding keyword_at next_at
surely_read keyword [] there said = true≢false (sym there)
surely_read keyword (word ∷ words) there said = let e : ⊥ = cc (rw there at said) in e
