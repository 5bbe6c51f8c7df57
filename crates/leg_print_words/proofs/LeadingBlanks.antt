-- Texts that begin with white space, and their words.
use Rattle.std.proofs.Common.{◌≡◌, ℕ, ◌+◌, ◌-◌, Bool, true, false, ◌&&◌, ◌==◌, nat_lt, List, [], ◌∷◌, ◌++◌, length, slice_index, count_by, refl, sym, ap, ◌∙◌, subst, arith}
use Rattle.std.specs.List.{list_any, list_all}
use Rattle.std.proofs.lemmas.Bool.{false≢true, and_parts}
use Rattle.std.proofs.lemmas.Bool.Decides.{nat_tests}
use Rattle.std.proofs.lemmas.List.{append_assoc, map-append}
use Rattle.leg_lex.specs.Word.{texts}
use Rattle.leg_lex.specs.Cut.{White, Quoted, Plain, kind_of, Ends, RunsTo, IsPiece, CutTo, is_white, is_line_feed}
use Rattle.leg_lex.specs.Tokens.{plain_words, words_in, words_from}
use Rattle.leg_lex.specs.Words.{Words, is_plain_kind, closes, is_closed}
use Rattle.leg_lex.proofs.PieceKinds.{quoted_here, closes_surely, plain_here}
use Rattle.leg_output.specs.Words.{spaced, stays_one, is_printable}

-- the text is over, or goes on with white space
abbrev pub IsGap : List ℕ → Type 0
IsGap [] = Unit {0}
IsGap (b ∷ bytes) = is_white b ≡ true

-- One word of a text: where white space comes after it, it is one piece, and that piece is one word.
pub record IsOne (word : List ℕ) : Type 0 where
  pub piece : (rest : List ℕ) → IsGap rest → IsPiece word rest
  pub said : (n : ℕ) → words_in n word ≡ record { text = word; line = n } ∷ []

-- The text begins with white space, and has these words where white space comes after it too.
pub record Behind (text : List ℕ) (words : Words) : Type 0 where
  pub pieces : List (List ℕ)
  pub gap : (rest : List ℕ) → IsGap rest → IsGap (text ++ rest)
  pub cut : (rest : List ℕ) → IsGap rest → CutTo rest pieces (text ++ rest)
  pub said : (n : ℕ) → texts (words_from n pieces) ≡ words

-- A plain word goes on to the white space after it.
runs_to_gap : (bytes rest : List ℕ) → list_any is_white bytes ≡ false → IsGap rest → RunsTo is_white bytes rest
runs_to_gap [] [] none gap = tt
runs_to_gap [] (b ∷ rest) none gap = gap
runs_to_gap (b ∷ bytes) rest none gap = by (runs_to_gap bytes rest) (is_white b) refl where
  by : (list_any is_white bytes ≡ false → IsGap rest → RunsTo is_white bytes rest) → (white : Bool) → is_white b ≡ white → RunsTo is_white (b ∷ bytes) rest
  by later true is = absurd (let e : ⊥ = cc (rw is at none) in e)
  by later false is = (is, later (rw is at none) gap)

plain_is_one : (b : ℕ) (bytes : List ℕ) → is_plain_kind (kind_of b) ≡ true → list_any is_white bytes ≡ false → stays_one (b ∷ bytes) ≡ true → IsOne (b ∷ bytes)
plain_is_one b bytes is none stays =
    let kind : kind_of b ≡ Plain = plain_here b is in record {
      piece = λ rest gap. subst (λ k. Ends k b bytes rest) (sym kind) (runs_to_gap bytes rest none gap);
      said = λ n. rw kind (by n (nat_lt 0 (length (b ∷ bytes) - 1) && slice_index (b ∷ bytes) (length (b ∷ bytes) - 1) == 59) refl);
    } where
      by : (n : ℕ) (two : Bool) → (nat_lt 0 (length (b ∷ bytes) - 1) && slice_index (b ∷ bytes) (length (b ∷ bytes) - 1) == 59) ≡ two
          → plain_words n (b ∷ bytes) ≡ record { text = b ∷ bytes; line = n } ∷ []
      by n true is = absurd (let e : ⊥ = cc (rw is at stays) in e)
      by n false is = rw is refl

-- A quoted word ends at its closing quote.
closed_is_one : (b : ℕ) (bytes : List ℕ) → b ≡ 34 → closes b bytes ≡ true → IsOne (b ∷ bytes)
closed_is_one b bytes quote ends =
    let kind : kind_of b ≡ Quoted = quoted_here b quote in record {
      piece = λ rest gap. subst (λ k. Ends k b bytes rest) (sym kind) (closes_surely b bytes ends);
      said = λ n. rw kind refl;
    }

-- a printable word is one word of a text
pub printable_is_one : (word : List ℕ) → is_printable word ≡ true → IsOne word
printable_is_one [] test = absurd (false≢true test)
printable_is_one (b ∷ bytes) test = by (is_plain_kind (kind_of b)) (list_any is_white bytes) (stays_one (b ∷ bytes)) refl refl refl where
  closed : is_closed (b ∷ bytes) ≡ true → IsOne (b ∷ bytes)
  closed is =
      let quote : b ≡ 34 = grind (arith, nat_tests) in
      let ends : closes b bytes ≡ true = grind (arith, nat_tests) in
      closed_is_one b bytes quote ends

  by : (kind white stays : Bool) → is_plain_kind (kind_of b) ≡ kind → list_any is_white bytes ≡ white → stays_one (b ∷ bytes) ≡ stays → IsOne (b ∷ bytes)
  by true false true is none one = plain_is_one b bytes is none one
  by true false false is none one = closed (rw (is, none, one) at test)
  by true true stays is none one = closed (rw (is, none) at test)
  by false white stays is none one = closed (rw is at test)

-- Pieces of one text and then those of the next.
pub cut_append : (pieces more : List (List ℕ)) (text middle rest : List ℕ) → CutTo middle pieces text → CutTo rest more middle
    → CutTo rest (pieces ++ more) text
cut_append [] more text middle rest here next = subst (CutTo rest more) (sym here) next
cut_append (piece ∷ pieces) more text middle rest (after, here, is_piece, cut) next =
    (after, here, is_piece, cut_append pieces more after middle rest cut next)

pub said_append : (n : ℕ) (pieces more : List (List ℕ)) (words : Words) → ((m : ℕ) → texts (words_from m more) ≡ words)
    → texts (words_from n (pieces ++ more)) ≡ texts (words_from n pieces) ++ words
said_append n [] more words said = said n
said_append n (piece ∷ pieces) more words said =
    let m = n + count_by is_line_feed piece in
    map-append (λ w. w.text) (words_in n piece) (words_from m (pieces ++ more))
    ∙ ap (λ later. texts (words_in n piece) ++ later) (said_append m pieces more words said)
    ∙ sym (append_assoc (texts (words_in n piece)) (texts (words_from m pieces)) words)
    ∙ ap (λ both. both ++ words) (sym (map-append (λ w. w.text) (words_in n piece) (words_from m pieces)))

pub behind_nil : Behind [] []
behind_nil = record { pieces = []; gap = λ rest gap. gap; cut = λ rest gap. refl; said = λ n. refl }

pub behind_append : {text other : List ℕ} {words more : Words} → Behind text words → Behind other more → Behind (text ++ other) (words ++ more)
behind_append {text} {other} {words} {more} first next = record {
  pieces = first.pieces ++ next.pieces;
  gap = λ rest gap. rw (append_assoc text other rest) (first.gap (other ++ rest) (next.gap rest gap));
  cut = λ rest gap. rw (append_assoc text other rest)
      (cut_append first.pieces next.pieces (text ++ (other ++ rest)) (other ++ rest) rest (first.cut (other ++ rest) (next.gap rest gap)) (next.cut rest gap));
  said = λ n. said_append n first.pieces next.pieces more next.said ∙ ap (λ v. v ++ more) (first.said n);
}

-- white space alone, as a line feed or a further blank, has no words
pub behind_white : (b : ℕ) → is_white b ≡ true → Behind (b ∷ []) []
behind_white b white =
    let kind : kind_of b ≡ White = rw white refl in record {
      pieces = (b ∷ []) ∷ [];
      gap = λ rest gap. white;
      cut = λ rest gap. (rest, refl, subst (λ k. Ends k b [] rest) (sym kind) refl, refl);
      said = λ n. rw kind refl;
    }

-- a word behind a blank
pub behind_word : (word : List ℕ) → IsOne word → Behind (32 ∷ word) (word ∷ [])
behind_word word one = record {
  pieces = (32 ∷ []) ∷ word ∷ [];
  gap = λ rest gap. refl;
  cut = λ rest gap. (word ++ rest, refl, refl, (rest, refl, one.piece rest gap, refl));
  said = λ n. rw one.said refl;
}

-- a list's tests, at its first element and at the others
pub first_passes : {X : Type 0} (test : X → Bool) (x : X) (xs : List X) → list_all test (x ∷ xs) ≡ true → test x ≡ true
first_passes test x xs all = (and_parts (test x) (list_all test xs) all).0

pub others_pass : {X : Type 0} (test : X → Bool) (x : X) (xs : List X) → list_all test (x ∷ xs) ≡ true → list_all test xs ≡ true
others_pass test x xs all = (and_parts (test x) (list_all test xs) all).1

-- words, each behind a blank
pub behind_spaced : (words : Words) → list_all is_printable words ≡ true → Behind (spaced words) words
behind_spaced [] all = behind_nil
behind_spaced (word ∷ words) all =
    behind_append (behind_word word (printable_is_one word (first_passes is_printable word words all)))
    (behind_spaced words (others_pass is_printable word words all))
