-- Clauses that begin with a name or a quoted word.
use Rattle.std.proofs.Common.{◌≡◌, ℕ, ◌+◌, ◌<◌, ◌≤◌, Bool, true, false, List, [], ◌∷◌, length, get_or, take, None, Some, refl, sym, ap, ◌∙◌}
use Rattle.std.specs.List.{list_all}
use Rattle.std.proofs.lemmas.List.{take_all}
use Rattle.std.proofs.lemmas.List.Folds.{list_all_at, list_all_more}
use Rattle.leg_lex.specs.Words.{Words, is_word, next_at, word_at}
use Rattle.leg_grammar.specs.Def.Guard.{when}
use Rattle.leg_grammar.specs.Def.Clause.{is_clause}

-- the word that a clause begins with is read
pub is_one : (clause : Words) (word : List ℕ) (rest : Words) → word_at clause ≡ Some (word, rest) → when (is_clause clause) ≡ Some tt
unfolding word_at next_at
is_one [] word rest said = absurd (let e : ⊥ = cc in e)
is_one (first ∷ words) word rest said = by (is_word first) refl where
  by : (test : Bool) → is_word first ≡ test → when (is_clause (first ∷ words)) ≡ Some tt
  by false is = absurd (let e : ⊥ = cc (rw is at said) in e)
  by true is = rw is refl

pub is_none : (clause : Words) → word_at clause ≡ None → when (is_clause clause) ≡ None
unfolding word_at next_at
is_none [] said = refl
is_none (first ∷ words) said = by (is_word first) refl where
  by : (test : Bool) → is_word first ≡ test → when (is_clause (first ∷ words)) ≡ None
  by false is = rw is refl
  by true is = absurd (let e : ⊥ = cc (rw is at said) in e)

met : (test : Bool) → when test ≡ Some tt → test ≡ true
met true said = refl
met false said = absurd (let e : ⊥ = cc in e)

unmet : (test : Bool) → when test ≡ None → test ≡ false
unmet true said = absurd (let e : ⊥ = cc in e)
unmet false said = refl

-- one more clause
pub one_more : (clauses : List Words) (i : ℕ) (x : Words) → i < length clauses → x ≡ get_or clauses i x → when (is_clause x) ≡ Some tt
    → list_all is_clause (take i clauses) ≡ true → list_all is_clause (take (i + 1) clauses) ≡ true
one_more clauses i x less is said before =
    let there : is_clause (get_or clauses i x) ≡ true = rw (← is) (met (is_clause x) said) in
    list_all_more is_clause clauses i x less ∙ rw (before, there) refl

-- one that is none
pub one_not : (clauses : List Words) (i : ℕ) (x : Words) → i < length clauses → x ≡ get_or clauses i x → when (is_clause x) ≡ None
    → when (list_all is_clause clauses) ≡ None
one_not clauses i x less is said =
    let there : is_clause (get_or clauses i x) ≡ false = rw (← is) (unmet (is_clause x) said) in
    rw (list_all_at is_clause clauses i x less there) refl

pub all_are : (clauses : List Words) (i : ℕ) → length clauses ≤ i → list_all is_clause (take i clauses) ≡ true → when (list_all is_clause clauses) ≡ Some tt
all_are clauses i past before =
    let all : list_all is_clause clauses ≡ true = ap (list_all is_clause) (sym (take_all i clauses past)) ∙ before in
    rw all refl
