-- One word is read past, or looked at.
use Rattle.std.proofs.Common.{◌≡◌, ℕ, zero, suc, ◌+◌, ◌-◌, ◌<◌, false, List, [], ◌∷◌, drop, None, Some, refl, sym, subst, arith}
use Rattle.std.proofs.Math.Seq.{drop-nil}
use Rattle.std.proofs.lemmas.List.{drop-drop}
use Rattle.leg_lex.specs.Words.{Words, next_at}
use Rattle.leg_lex.specs.Statements.{is_semicolon}
use Rattle.leg_lex.proofs.Parts.{rest_is, made_is}
use Rattle.leg_drc_rules.specs.Section.{at_semicolon}

pub next_rest : (words : Words) (word : List ℕ) (rest : Words) → next_at words ≡ Some (word, rest) → rest ≡ drop 1 words
unfolding next_at
next_rest [] word rest said = absurd (let e : ⊥ = cc in e)
next_rest (first ∷ words) word rest said = sym (rest_is first word words rest said)

pub next_none : (words : Words) → next_at words ≡ None → words ≡ []
unfolding next_at
next_none [] said = refl
next_none (first ∷ words) said = absurd (let e : ⊥ = cc in e)

-- one word more is read past
pub skip_on : (count : ℕ) (words rest : Words) → 0 < count → rest ≡ drop 1 words → drop (count - 1) rest ≡ drop count words
skip_on zero words rest some is = absurd (omega (arith, some))
skip_on (suc count) words rest some is =
    let less : suc count - 1 ≡ count = omega arith in
    let more : 1 + count ≡ suc count = omega arith in
    rw (is, less) (subst (λ n. drop count (drop 1 words) ≡ drop n words) more (drop-drop count 1 words))

-- there is none
pub skip_none : (count : ℕ) (words : Words) → words ≡ [] → drop count words ≡ []
skip_none count words none = rw none (drop-nil count)

pub next_mark : (words : Words) (word : List ℕ) (rest : Words) → next_at words ≡ Some (word, rest) → at_semicolon words ≡ is_semicolon word
unfolding next_at
next_mark [] word rest said = absurd (let e : ⊥ = cc in e)
next_mark (first ∷ words) word rest said = rw (made_is first word words rest said) refl

pub no_mark : (words : Words) → next_at words ≡ None → at_semicolon words ≡ false
unfolding next_at
no_mark [] said = refl
no_mark (first ∷ words) said = absurd (let e : ⊥ = cc in e)
