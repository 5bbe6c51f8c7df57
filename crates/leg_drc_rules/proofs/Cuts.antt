-- A section is cut into statements.
use Rattle.std.proofs.Common.{◌≡◌, ℕ, zero, suc, ◌+◌, ◌-◌, ◌<◌, ◌≤◌, Bool, true, false, List, [], ◌∷◌, ◌++◌, length, drop, take, Option, None, Some, refl, sym, ◌∙◌, ap, append_assoc, arith}
use Rattle.std.specs.List.{list_any}
use Rattle.std.proofs.lemmas.Bool.{false≢true}
use Rattle.leg_lex.specs.Words.{Words}
use Rattle.leg_lex.proofs.Parts.{rest_is, made_is}
use Rattle.leg_lex.specs.Statements.{is_semicolon, up_to, statement_at}
use Rattle.leg_drc_rules.specs.Section.{at_semicolon, statements_in}

pub skip_less : (words : Words) (left : ℕ) → left < length words → length (drop 1 words) < length words
skip_less [] left more = absurd (omega arith)
skip_less (word ∷ words) left more = omega arith

first_more : (left : ℕ) (words : Words) → left < suc (length words) → suc (length words) - left ≡ suc (length words - left)
first_more left words more = omega arith

-- a semicolon
pub mark_here : (words : Words) (left : ℕ) → left < length words → at_semicolon words ≡ true → list_any is_semicolon (take (length words - left) words) ≡ true
mark_here [] left more there = absurd (false≢true there)
mark_here (word ∷ words) left more there = rw (first_more left words more, there) refl

-- another word
pub mark_later : (words : Words) (left : ℕ) → left < length words → at_semicolon words ≡ false
    → list_any is_semicolon (take (length words - left) words) ≡ list_any is_semicolon (take (length (drop 1 words) - left) (drop 1 words))
mark_later [] left more other = refl
mark_later (word ∷ words) left more other = rw (first_more left words more, other) refl

-- no word
pub mark_nowhere : (words : Words) (left : ℕ) → length words ≤ left → list_any is_semicolon (take (length words - left) words) ≡ false
mark_nowhere words left few = let e : length words - left ≡ 0 = omega arith in rw e refl

-- the first statement among some words, one of which is a semicolon: so many of them are behind it
pub record IsCut (k : ℕ) (words statement rest : Words) : Type 0 where
  pub count : ℕ
  pub words_are : k ≡ suc (length statement) + count
  pub all_are : length words ≡ suc (length statement) + length rest
  pub first : statements_in (take k words) ≡ statement ∷ statements_in (take count rest)

cut_by : (k : ℕ) (word : List ℕ) (words statement rest : Words)
    → ((s r : Words) → list_any is_semicolon (take k words) ≡ true → up_to is_semicolon words ≡ Some (s, r) → IsCut k words s r)
    → (ends : Bool) → is_semicolon word ≡ ends → (cut : Option (Words × Words)) → up_to is_semicolon words ≡ cut
    → list_any is_semicolon (word ∷ take k words) ≡ true → up_to is_semicolon (word ∷ words) ≡ Some (statement, rest)
    → IsCut (suc k) (word ∷ words) statement rest
unfolding up_to statements_in
cut_by k word words statement rest before true is cut cut_is some said =
    let all = rw is at said in
    let none = made_is [] statement words rest all in
    let same = rest_is [] statement words rest all in
    rw (← none, ← same) (record { count = k; words_are = omega arith; all_are = omega arith; first = rw is refl })
cut_by k word words statement rest before false is None cut_is some said =
    absurd (let e : ⊥ = cc (rw (is, cut_is) at said) in e)
cut_by k word words statement rest before false is (Some cut) cut_is some said =
    let all = rw (is, cut_is) at said in
    let more = made_is (word ∷ cut.0) statement cut.1 rest all in
    let same = rest_is (word ∷ cut.0) statement cut.1 rest all in
    let later = before cut.0 cut.1 (rw is at some) cut_is in
    rw (← more, ← same) (record {
      count = later.count;
      words_are = let e = later.words_are in omega arith;
      all_are = let e = later.all_are in omega arith;
      first = rw (is, later.first) refl;
    })

cut_first : (k : ℕ) (words statement rest : Words) → list_any is_semicolon (take k words) ≡ true → up_to is_semicolon words ≡ Some (statement, rest)
    → IsCut k words statement rest
cut_first zero words statement rest some said = absurd (false≢true some)
cut_first (suc k) [] statement rest some said = absurd (false≢true some)
cut_first (suc k) (word ∷ words) statement rest some said =
    cut_by k word words statement rest (cut_first k words) (is_semicolon word) refl (up_to is_semicolon words) refl some said

-- the words up to a place, of which a statement is the first
pub record IsCutAt (words statement rest : Words) (left : ℕ) : Type 0 where
  pub within : left ≤ length rest
  pub first : statements_in (take (length words - left) words) ≡ statement ∷ statements_in (take (length rest - left) rest)
  pub fewer : length rest < length words

pub cut_at : (words statement rest : Words) (left : ℕ) → left ≤ length words → list_any is_semicolon (take (length words - left) words) ≡ true
    → statement_at words ≡ Some (statement, rest) → IsCutAt words statement rest left
unfolding statement_at
cut_at words statement rest left within some said =
    let cut = cut_first (length words - left) words statement rest some said in
    let count = cut.count in
    let words_are : length words - left ≡ suc (length statement) + count = cut.words_are in
    let all_are : length words ≡ suc (length statement) + length rest = cut.all_are in
    let behind : count ≡ length rest - left = omega arith in
    let first : statements_in (take (length words - left) words) ≡ statement ∷ statements_in (take count rest) = cut.first in
    record { within = omega arith; first = rw (← behind) first; fewer = omega arith }

none_by : (n : ℕ) (word : List ℕ) (words : Words) → (up_to is_semicolon words ≡ None → list_any is_semicolon (take n words) ≡ false)
    → (ends : Bool) → is_semicolon word ≡ ends → (cut : Option (Words × Words)) → up_to is_semicolon words ≡ cut
    → up_to is_semicolon (word ∷ words) ≡ None → list_any is_semicolon (word ∷ take n words) ≡ false
unfolding up_to
none_by n word words before true is cut cut_is said = absurd (let e : ⊥ = cc (rw is at said) in e)
none_by n word words before false is None cut_is said = rw is (before cut_is)
none_by n word words before false is (Some cut) cut_is said = absurd (let e : ⊥ = cc (rw (is, cut_is) at said) in e)

none_in : (n : ℕ) (words : Words) → up_to is_semicolon words ≡ None → list_any is_semicolon (take n words) ≡ false
none_in zero words said = refl
none_in (suc n) [] said = refl
none_in (suc n) (word ∷ words) said =
    none_by n word words (none_in n words) (is_semicolon word) refl (up_to is_semicolon words) refl said

-- where a semicolon is among some words, there is a statement
pub cut_none : (n : ℕ) (words : Words) → list_any is_semicolon (take n words) ≡ true → statement_at words ≡ None → ⊥
unfolding statement_at
cut_none n words some said = false≢true (sym (none_in n words said) ∙ some)

no_statement_by : (word : List ℕ) (words : Words) → (list_any is_semicolon words ≡ false → statements_in words ≡ []) → (ends : Bool) → is_semicolon word ≡ ends
    → list_any is_semicolon (word ∷ words) ≡ false → statements_in (word ∷ words) ≡ []
unfolding statements_in
no_statement_by word words before true is none = absurd (false≢true (sym (rw is at none)))
no_statement_by word words before false is none = rw (is, before (rw is at none)) refl

-- and without one there is none
pub no_statement : (words : Words) → list_any is_semicolon words ≡ false → statements_in words ≡ []
unfolding statements_in
no_statement [] none = refl
no_statement (word ∷ words) none = no_statement_by word words (no_statement words) (is_semicolon word) refl none

-- one more statement
pub statement_more : (made more all : List Words) (words statement rest : Words) (left : ℕ) → more ≡ made ++ statement ∷ [] → IsCutAt words statement rest left
    → made ++ statements_in (take (length words - left) words) ≡ all → more ++ statements_in (take (length rest - left) rest) ≡ all
statement_more made more all words statement rest left is cut whole =
    rw (is, append_assoc) (ap (λ zs. made ++ zs) (sym cut.first) ∙ whole)
