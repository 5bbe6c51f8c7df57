-- Texts of whole lines, and their words.
use Rattle.std.proofs.Common.{◌≡◌, ℕ, ◌+◌, Bool, true, false, List, [], ◌∷◌, ◌++◌, All, codes, count_by, refl, sym, ap, ◌∙◌, subst}
use Rattle.std.specs.List.{list_all, flat_map}
use Rattle.std.proofs.lemmas.Bool.{false≢true}
use Rattle.std.proofs.lemmas.List.{append_assoc, append-nil}
use Rattle.std.proofs.lemmas.List.Folds.{list_all-append}
use Rattle.std.proofs.lemmas.List.Elements.{All-head, All-tail}
use Rattle.leg_lex.specs.Word.{Word, texts}
use Rattle.leg_lex.specs.Cut.{CutTo, Cut, is_line_feed}
use Rattle.leg_lex.specs.Tokens.{words_from, AreTokens}
use Rattle.leg_lex.specs.Words.{Words}
use Rattle.leg_output.specs.Words.{spaced, line, is_printable, text_of, words_in_lines}
use Rattle.leg_print_words.proofs.LeadingBlanks.{IsOne, Behind, printable_is_one, first_passes, others_pass, cut_append, said_append, behind_nil, behind_append, behind_white, behind_word, behind_spaced}

-- The text has these words, whatever comes after it: it is whole lines.
pub record Lines (text : List ℕ) (words : Words) : Type 0 where
  pub pieces : List (List ℕ)
  pub cut : (rest : List ℕ) → CutTo rest pieces (text ++ rest)
  pub said : (n : ℕ) → texts (words_from n pieces) ≡ words

pub lines_nil : Lines [] []
lines_nil = record { pieces = []; cut = λ rest. refl; said = λ n. refl }

pub lines_append : {text other : List ℕ} {words more : Words} → Lines text words → Lines other more → Lines (text ++ other) (words ++ more)
lines_append {text} {other} {words} {more} first next = record {
  pieces = first.pieces ++ next.pieces;
  cut = λ rest. rw (append_assoc text other rest)
      (cut_append first.pieces next.pieces (text ++ (other ++ rest)) (other ++ rest) rest (first.cut (other ++ rest)) (next.cut rest));
  said = λ n. said_append n first.pieces next.pieces more next.said ∙ ap (λ v. v ++ more) (first.said n);
}

-- a first word, a text behind it, and a line feed
pub lines_line : {text : List ℕ} {words : Words} (word : List ℕ) → IsOne word → Behind text words → Lines (word ++ text ++ 10 ∷ []) (word ∷ words)
lines_line {text} {words} word one behind = record {
  pieces = word ∷ (behind.pieces ++ (10 ∷ []) ∷ []);
  cut = λ rest. (
    text ++ 10 ∷ rest,
    append_assoc (word ++ text) (10 ∷ []) rest ∙ append_assoc word text (10 ∷ rest),
    one.piece (text ++ 10 ∷ rest) (behind.gap (10 ∷ rest) refl),
    cut_append behind.pieces ((10 ∷ []) ∷ []) (text ++ 10 ∷ rest) (10 ∷ rest) rest (behind.cut (10 ∷ rest) refl) (rest, refl, refl, refl),
  );
  said = λ n. rw one.said (ap (λ v. word ∷ v)
      (said_append (n + count_by is_line_feed word) behind.pieces ((10 ∷ []) ∷ []) [] (λ m. refl) ∙ append-nil _
      ∙ behind.said (n + count_by is_line_feed word)));
}

-- the same with a semicolon behind a blank before the line feed
pub lines_statement : {text : List ℕ} {words : Words} (word : List ℕ) → IsOne word → Behind text words
    → Lines (word ++ text ++ codes " ;\n") (word ∷ (words ++ codes ";" ∷ []))
lines_statement {text} {words} word one behind =
    let ended : Behind (text ++ codes " ;") (words ++ codes ";" ∷ []) = behind_append behind (behind_word (codes ";") (printable_is_one (codes ";") refl)) in
    let whole : Lines (word ++ (text ++ codes " ;") ++ 10 ∷ []) (word ∷ (words ++ codes ";" ∷ [])) = lines_line word one ended in
    subst (λ t. Lines t (word ∷ (words ++ codes ";" ∷ [])))
    (append_assoc word (text ++ codes " ;") (10 ∷ []) ∙ ap (λ t. word ++ t) (append_assoc text (codes " ;") (10 ∷ []))
    ∙ sym (append_assoc word text (codes " ;\n"))) whole

-- Further lines of an entry begin with two blanks, which are no words.
further_line : (words : Words) → list_all is_printable words ≡ true → Behind (codes "\n " ++ spaced words) words
further_line words all = behind_append (behind_append (behind_white 10 refl) (behind_white 32 refl)) (behind_spaced words all)

pub further_lines : (lines : List Words) → list_all is_printable (words_in_lines lines) ≡ true
    → Behind (flat_map (λ words. codes "\n " ++ spaced words) lines) (words_in_lines lines)
further_lines [] all = behind_nil
further_lines (words ∷ lines) all = by (further_lines lines) (list_all is_printable words) (list_all is_printable (words_in_lines lines)) refl refl where
  by : (list_all is_printable (words_in_lines lines) ≡ true → Behind (flat_map (λ words. codes "\n " ++ spaced words) lines) (words_in_lines lines))
      → (here others : Bool) → list_all is_printable words ≡ here → list_all is_printable (words_in_lines lines) ≡ others
      → Behind (flat_map (λ words. codes "\n " ++ spaced words) (words ∷ lines)) (words_in_lines (words ∷ lines))
  by later true true first rest = behind_append (further_line words first) (later rest)
  by later true false first rest = absurd (false≢true (rw (list_all-append is_printable words (words_in_lines lines), first, rest) at all))
  by later false others first rest = absurd (false≢true (rw (list_all-append is_printable words (words_in_lines lines), first) at all))

-- the texts of a list's elements, one after the other
pub lines_each : {X : Type 0} (text : X → List ℕ) (words : X → Words) (xs : List X) → All (λ x. Lines (text x) (words x)) xs
    → Lines (flat_map text xs) (flat_map words xs)
lines_each text words [] each = lines_nil
lines_each text words (x ∷ xs) each =
    lines_append (All-head (λ x. Lines (text x) (words x)) x xs each) (lines_each text words xs (All-tail (λ x. Lines (text x) (words x)) x xs each))

-- a line of printable words
pub lines_of_words : (words : Words) → list_all is_printable words ≡ true → Lines (line words) words
lines_of_words [] all = lines_nil
lines_of_words (word ∷ words) all =
    lines_line word (printable_is_one word (first_passes is_printable word words all)) (behind_spaced words (others_pass is_printable word words all))

-- lines of printable words
pub printable_lines : (lines : List Words) → list_all is_printable (words_in_lines lines) ≡ true → Lines (text_of lines) (words_in_lines lines)
printable_lines [] all = lines_nil
printable_lines (words ∷ lines) all = by (printable_lines lines) (list_all is_printable words) (list_all is_printable (words_in_lines lines)) refl refl where
  by : (list_all is_printable (words_in_lines lines) ≡ true → Lines (text_of lines) (words_in_lines lines)) → (here others : Bool)
      → list_all is_printable words ≡ here → list_all is_printable (words_in_lines lines) ≡ others
      → Lines (text_of (words ∷ lines)) (words_in_lines (words ∷ lines))
  by later true true first rest = lines_append (lines_of_words words first) (later rest)
  by later true false first rest = absurd (false≢true (rw (list_all-append is_printable words (words_in_lines lines), first, rest) at all))
  by later false others first rest = absurd (false≢true (rw (list_all-append is_printable words (words_in_lines lines), first) at all))

-- A text of whole lines has tokens, and these are its words.
pub lines_are_cut : {words : Words} (text : List ℕ) (lines : Lines text words) → Cut lines.pieces text
lines_are_cut text lines = subst (CutTo [] lines.pieces) (append-nil text) (lines.cut [])

pub lines_are_text : (text : List ℕ) (words : Words) → Lines text words → (tokens : List Word) × AreTokens text tokens × (texts tokens ≡ words)
lines_are_text text words lines = (words_from 1 lines.pieces, (lines.pieces, lines_are_cut text lines, refl), lines.said 1)

-- and there are no others, where a text is cut in one way
pub lines_have_only : (text : List ℕ) (words : Words) → ((p q : List (List ℕ)) → Cut p text → Cut q text → p ≡ q) → Lines text words → (tokens : List Word)
    → AreTokens text tokens → texts tokens ≡ words
lines_have_only text words one lines tokens (pieces, cut, is) =
    ap texts is ∙ ap (λ p. texts (words_from 1 p)) (one pieces lines.pieces cut (lines_are_cut text lines)) ∙ lines.said 1
