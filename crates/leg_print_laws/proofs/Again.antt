-- A statement, its clauses, and forms one after the other are read back from their words.
use Rattle.std.proofs.Common.{◌≡◌, ℕ, zero, suc, ◌<◌, ◌≤◌, Bool, true, false, List, [], ◌∷◌, ◌++◌, All, length, length-append, Option, None, Some, codes, refl, sym, ap, ◌∙◌, arith}
use Rattle.std.specs.List.{list_any, flat_map, slice_split}
use Rattle.std.proofs.lemmas.List.{append_assoc, append-nil}
use Rattle.std.proofs.lemmas.List.Elements.{All-head, All-tail}
use Rattle.std.proofs.lemmas.List.Splits.{slice_split-cons_yes, slice_split-cons_no}
use Rattle.std.proofs.lemmas.Option.{same_Some}
use Rattle.leg_lex.specs.Words.{Words}
use Rattle.leg_lex.specs.Statements.{is_semicolon, is_plus, up_to, statement_at, clauses_of}
use Rattle.leg_lex.specs.Until.{steps, until, over}
use Rattle.leg_lex.proofs.Until.{Shortens, ends, goes_on}
use Rattle.leg_print_laws.proofs.FreeWords.{AreInside, first_is_none, others_are_none}

-- words without a semicolon, and then one, are a statement
pub statement_again : (words rest : Words) → list_any is_semicolon words ≡ false → statement_at (words ++ (codes ";" ∷ rest)) ≡ Some (words, rest)
unfolding statement_at up_to
statement_again [] rest none = refl
statement_again (word ∷ words) rest none =
    rw (first_is_none is_semicolon word words none, statement_again words rest (others_are_none is_semicolon word words none)) refl

pub said_again : (words rest : Words) → AreInside words → statement_at ((words ++ codes ";" ∷ []) ++ rest) ≡ Some (words, rest)
said_again words rest inside = rw (append_assoc words (codes ";" ∷ []) rest) (statement_again words rest inside.semicolon)

-- a head without a plus, and then clauses
split_more : (head rest : Words) → list_any is_plus head ≡ false → slice_split is_plus (head ++ (codes "+" ∷ rest)) ≡ head ∷ slice_split is_plus rest
split_more [] rest none = slice_split-cons_yes is_plus (codes "+") rest refl
split_more (word ∷ head) rest none =
    slice_split-cons_no is_plus word (head ++ (codes "+" ∷ rest)) (first_is_none is_plus word head none)
    ∙ rw (split_more head rest (others_are_none is_plus word head none)) refl

split_last : (head : Words) → list_any is_plus head ≡ false → slice_split is_plus head ≡ head ∷ []
split_last [] none = refl
split_last (word ∷ head) none =
    slice_split-cons_no is_plus word head (first_is_none is_plus word head none)
    ∙ rw (split_last head (others_are_none is_plus word head none)) refl

-- words without a plus are a head alone
pub clauses_none : (head : Words) → list_any is_plus head ≡ false → clauses_of head ≡ head ∷ []
clauses_none head none = split_last head none

-- a head, and clauses each behind a plus
pub clauses_again : (head : Words) (clauses : List Words) → list_any is_plus head ≡ false → All (λ clause. list_any is_plus clause ≡ false) clauses
    → clauses_of (head ++ flat_map (λ clause. codes "+" ∷ clause) clauses) ≡ head ∷ clauses
clauses_again head [] none each = rw (append-nil head) (split_last head none)
clauses_again head (clause ∷ clauses) none each =
    split_more head (clause ++ flat_map (λ clause. codes "+" ∷ clause) clauses) none
    ∙ ap (λ parts. head ∷ parts) (clauses_again clause clauses
    (All-head (λ clause. list_any is_plus clause ≡ false) clause clauses each)
    (All-tail (λ clause. list_any is_plus clause ≡ false) clause clauses each))

-- one clause alone
pub clause_again : (head clause : Words) → list_any is_plus head ≡ false → list_any is_plus clause ≡ false
    → clauses_of (head ++ (codes "+" ∷ clause)) ≡ head ∷ clause ∷ []
clause_again head clause none one = split_more head clause none ∙ ap (λ parts. head ∷ parts) (split_last clause one)

-- Forms one after the other: each is read behind those before it, whatever stands after it.
module _ {S X : Type 0} (stop : Words → Bool) (form : S → Words → Option (S × Words)) (words : X → Words) (made : List X → S) (last : Words) where
  pub record IsRead (front : List X) (x : X) (back : List X) : Type 0 where
    pub goes : stop (words x ++ (flat_map words back ++ last)) ≡ false
    pub read : form (made front) (words x ++ (flat_map words back ++ last)) ≡ Some (made (front ++ x ∷ []), flat_map words back ++ last)

  pub all_again : Shortens form → stop last ≡ true → (front xs : List X)
      → ((before : List X) (x : X) (after : List X) → front ++ xs ≡ before ++ (x ∷ after) → IsRead before x after)
      → until stop form (made front) (flat_map words xs ++ last) ≡ Some (made (front ++ xs), last)
  all_again shortens stops front [] each =
      rw (append-nil front) (ends stop form (made front) last stops)
  all_again shortens stops front (x ∷ xs) each =
      let one : IsRead front x xs = each front x xs refl in
      let e : (front ++ x ∷ []) ++ xs ≡ front ++ (x ∷ xs) = append_assoc front (x ∷ []) xs in
      let later = all_again shortens stops (front ++ x ∷ []) xs (λ before y after is. each before y after (sym e ∙ is)) in
      ap (λ all. until stop form (made front) all) (append_assoc (words x) (flat_map words xs) last)
      ∙ goes_on stop form shortens (made front) (made (front ++ x ∷ [])) (words x ++ (flat_map words xs ++ last)) (flat_map words xs ++ last) one.goes one.read
      ∙ later ∙ ap (λ all. Some (made all, last)) e

-- The same over a list that is taken element by element.
pub over_append : {S X : Type 0} (step : S → X → Option S) (xs ys : List X) (made next : S) → over step made xs ≡ Some next
    → over step made (xs ++ ys) ≡ over step next ys
unfolding over
over_append step [] ys made next is = ap (λ m. over step m ys) (same_Some made next is)
over_append {S} step (x ∷ xs) ys made next is = by (step made x) refl (λ more. over_append step xs ys more next) where
  by : (said : Option S) → step made x ≡ said → ((more : S) → over step more xs ≡ Some next → over step more (xs ++ ys) ≡ over step next ys)
      → over step made ((x ∷ xs) ++ ys) ≡ over step next ys
  by None none later = absurd (let e : ⊥ = cc (rw none at is) in e)
  by (Some more) some later = rw some (later more (rw some at is))

-- The same where each form's words are known to be some.
module _ {S X : Type 0} (stop : Words → Bool) (form : S → Words → Option (S × Words)) (words : X → Words) (made : List X → S) (last : Words) where
  steps_again : (n : ℕ) (front xs : List X) → stop last ≡ true → length xs < n
      → ((before : List X) (x : X) (after : List X) → front ++ xs ≡ before ++ (x ∷ after) → IsRead stop form words made last before x after)
      → steps stop form n (made front) (flat_map words xs ++ last) ≡ Some (made (front ++ xs), last)
  unfolding steps
  steps_again zero front xs stops less each = absurd (omega arith)
  steps_again (suc n) front [] stops less each = rw (stops, append-nil front) refl
  steps_again (suc n) front (x ∷ xs) stops less each =
      let one : IsRead stop form words made last front x xs = each front x xs refl in
      let e : (front ++ x ∷ []) ++ xs ≡ front ++ (x ∷ xs) = append_assoc front (x ∷ []) xs in
      ap (λ all. steps stop form (suc n) (made front) all) (append_assoc (words x) (flat_map words xs) last)
      ∙ rw (one.goes, one.read) (steps_again n (front ++ x ∷ []) xs stops (omega arith) (λ before y after is. each before y after (sym e ∙ is))
      ∙ ap (λ all. Some (made all, last)) e)

  no_fewer : (xs : List X) → ((x : X) → 0 < length (words x)) → length xs ≤ length (flat_map words xs ++ last)
  no_fewer [] some = omega arith
  no_fewer (x ∷ xs) some =
      let here = some x in
      let later = no_fewer xs some in
      rw (append_assoc (words x) (flat_map words xs) last, length-append (words x) (flat_map words xs ++ last)) (omega arith)

  pub some_again : ((x : X) → 0 < length (words x)) → stop last ≡ true → (xs : List X)
      → ((before : List X) (x : X) (after : List X) → xs ≡ before ++ (x ∷ after) → IsRead stop form words made last before x after)
      → until stop form (made []) (flat_map words xs ++ last) ≡ Some (made xs, last)
  some_again some stops xs each =
      let enough = no_fewer xs some in
      steps_again (suc (length (flat_map words xs ++ last))) [] xs stops (omega arith) each
