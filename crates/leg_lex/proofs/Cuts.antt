-- A text is cut in one way, piece by piece.
use Rattle.std.proofs.Common.{◌≡◌, ℕ, ◌+◌, List, [], ◌∷◌, ◌++◌, length, take, drop, slice_index, count_by, cond, refl, sym, ap, ◌∙◌, subst, add-zero, arith}
use Rattle.std.specs.List.{concat}
use Rattle.std.proofs.lemmas.List.Sums.{sum_by-append}
use Rattle.std.proofs.lemmas.List.{append_cancel_left, append_assoc, append-nil, nil_from_length, take-append-drop, take_at, drop_at}
use Rattle.leg_lex.specs.Word.{Word}
use Rattle.leg_lex.specs.Cut.{Kind, White, Comment, Quoted, Plain, kind_of, Ends, IsPiece, is_white, is_line_feed, CutTo, Cut, IsUnclosed}
use Rattle.leg_lex.specs.Tokens.{words_in, words_from, AreTokens}
use Rattle.leg_lex.proofs.Runs.{runs_same}
use Rattle.leg_lex.proofs.Quotes.{closes_same}

ends_same : (kind : Kind) (before : ℕ) (p q a b : List ℕ) → Ends kind before p a → Ends kind before q b → p ++ a ≡ q ++ b → p ≡ q
ends_same White before p q a b one other same = one ∙ sym other
ends_same Comment before p q a b one other same = runs_same is_line_feed p q a b one other same
ends_same Quoted before p q a b one other same = closes_same before p q a b one other same
ends_same Plain before p q a b one other same = runs_same is_white p q a b one other same

-- the first piece of a text is told by the text
pub piece_same : (p q a b : List ℕ) → IsPiece p a → IsPiece q b → p ++ a ≡ q ++ b → p ≡ q
piece_same [] q a b one other same = absurd one
piece_same (x ∷ p) [] a b one other same = absurd other
piece_same (x ∷ p) (y ∷ q) a b one other same =
    let e : y ≡ x = cc in
    let there : Ends (kind_of x) x q b = rw (← e) other in
    let tails : p ≡ q = ends_same (kind_of x) x p q a b one there cc in cc

-- and so are the bytes after it
rest_same : (p q a b : List ℕ) → p ≡ q → p ++ a ≡ q ++ b → a ≡ b
rest_same p q a b e same = append_cancel_left p a b (same ∙ ap (λ z. z ++ b) (sym e))

not_a_piece : (piece after : List ℕ) → [] ≡ piece ++ after → ¬ IsPiece piece after
not_a_piece [] after e is_piece = is_piece
not_a_piece (b ∷ bytes) after e is_piece = cc

-- a text is cut in one way at most
pub cut_same : (text : List ℕ) (p q : List (List ℕ)) → Cut p text → Cut q text → p ≡ q
cut_same text [] [] one other = refl
cut_same text [] (y ∷ q) one (b, there, is_piece, cut) = absurd (not_a_piece y b (sym one ∙ there) is_piece)
cut_same text (x ∷ p) [] (a, here, is_piece, cut) other = absurd (not_a_piece x a (sym other ∙ here) is_piece)
cut_same text (x ∷ p) (y ∷ q) (a, here, one, cut) (b, there, other, again) =
    let e : x ≡ y = piece_same x y a b one other (sym here ∙ there) in
    let f : a ≡ b = rest_same x y a b e (sym here ∙ there) in
    let g : p ≡ q = cut_same b p q (rw (← f) cut) again in cc

-- so a text has one list of words at most
pub tokens_same : (text : List ℕ) (v w : List Word) → AreTokens text v → AreTokens text w → w ≡ v
tokens_same text v w (p, cut, is) (q, again, there) = there ∙ ap (words_from 1) (cut_same text q p again cut) ∙ sym is

-- Reading a text, piece by piece.

-- what a text is cut into begins with the pieces that it begins with
cut_rest : (text rest : List ℕ) (p q : List (List ℕ)) → CutTo rest p text → Cut q text → (later : List (List ℕ)) × Cut later rest
cut_rest text rest [] q here cut = (q, subst (Cut q) here cut)
cut_rest text rest (x ∷ p) [] (a, here, is_piece, cut) nil = absurd (not_a_piece x a (sym nil ∙ here) is_piece)
cut_rest text rest (x ∷ p) (y ∷ q) (a, here, one, cut) (b, there, other, again) =
    let e : x ≡ y = piece_same x y a b one other (sym here ∙ there) in
    let f : b ≡ a = sym (rest_same x y a b e (sym here ∙ there)) in
    cut_rest a rest p q cut (subst (Cut q) f again)

cut_push : (text rest piece after : List ℕ) (pieces : List (List ℕ)) → CutTo rest pieces text → rest ≡ piece ++ after → IsPiece piece after
    → CutTo after (pieces ++ piece ∷ []) text
cut_push text rest piece after [] here whole is_piece = (after, here ∙ whole, is_piece, refl)
cut_push text rest piece after (x ∷ pieces) (a, here, one, cut) whole is_piece =
    (a, here, one, cut_push a rest piece after pieces cut whole is_piece)

feeds_append : (xs ys : List ℕ) → count_by is_line_feed (xs ++ ys) ≡ count_by is_line_feed xs + count_by is_line_feed ys
feeds_append xs ys = sum_by-append (λ x. cond (is_line_feed x) 1 0) xs ys

feeds_push : (pieces : List (List ℕ)) (piece : List ℕ)
    → count_by is_line_feed (concat (pieces ++ piece ∷ [])) ≡ count_by is_line_feed (concat pieces) + count_by is_line_feed piece
feeds_push [] piece = omega (arith, feeds_append piece [])
feeds_push (x ∷ pieces) piece =
    omega (arith, feeds_append x (concat (pieces ++ piece ∷ [])), feeds_append x (concat pieces), feeds_push pieces piece)

words_push : (line : ℕ) (pieces : List (List ℕ)) (piece : List ℕ)
    → words_from line (pieces ++ piece ∷ []) ≡ words_from line pieces ++ words_in (line + count_by is_line_feed (concat pieces)) piece
words_push line [] piece = append-nil _ ∙ ap (λ n. words_in n piece) (sym (add-zero line))
words_push line (x ∷ pieces) piece =
    let n = line + count_by is_line_feed x in
    let e : n + count_by is_line_feed (concat pieces) ≡ line + count_by is_line_feed (x ++ concat pieces) = omega (arith, feeds_append x (concat pieces)) in
    ap (λ z. words_in line x ++ z) (words_push n pieces piece) ∙ sym (append_assoc (words_in line x) (words_from n pieces) _)
    ∙ ap (λ m. words_in line x ++ words_from n pieces ++ words_in m piece) e

-- The text is cut into pieces up to this rest of it, which begins in this line, and these are their words.
pub record HasRead (text rest : List ℕ) (line : ℕ) (words : List Word) : Type 0 where
  pub pieces : List (List ℕ)
  pub cut : CutTo rest pieces text
  pub said : words ≡ words_from 1 pieces
  pub counted : line ≡ 1 + count_by is_line_feed (concat pieces)

pub read_more : (text rest : List ℕ) (line : ℕ) (words : List Word) (n : ℕ) → HasRead text rest line words → IsPiece (take n rest) (drop n rest)
    → HasRead text (drop n rest) (line + count_by is_line_feed (take n rest)) (words ++ words_in line (take n rest))
read_more text rest line words n read is_piece =
    let piece = take n rest in record {
      pieces = read.pieces ++ piece ∷ [];
      cut = cut_push text rest piece (drop n rest) read.pieces read.cut (sym (take-append-drop n rest)) is_piece;
      said = rw (read.said, read.counted) (sym (words_push 1 read.pieces piece));
      counted = omega (arith, read.counted, feeds_push read.pieces piece);
    }

-- at the end of the text
pub read_all : (text rest : List ℕ) (line : ℕ) (words : List Word) → HasRead text rest line words → length rest ≡ 0 → AreTokens text words
read_all text rest line words read over = (read.pieces, subst (λ r. CutTo r read.pieces text) (nil_from_length rest over) read.cut, read.said)

pub read_only : (text rest : List ℕ) (line : ℕ) (words : List Word) → HasRead text rest line words → length rest ≡ 0 → (others : List Word)
    → AreTokens text others → others ≡ words
read_only text rest line words read over others = tokens_same text words others (read_all text rest line words read over)

-- at a quote that begins no piece
pub read_stuck : (text rest : List ℕ) (line : ℕ) (words : List Word) → HasRead text rest line words → slice_index rest 0 ≡ 34
    → ((n : ℕ) → ¬ IsPiece (take n rest) (drop n rest)) → IsUnclosed text line
read_stuck text rest line words read quote endless = record {
  pieces = read.pieces;
  rest = rest;
  cut = read.cut;
  quote = quote;
  endless = endless;
  counted = read.counted;
}

not_cut : (text : List ℕ) (pieces : List (List ℕ)) → slice_index text 0 ≡ 34 → ((n : ℕ) → ¬ IsPiece (take n text) (drop n text)) → ¬ Cut pieces text
not_cut text [] quote endless nil = absurd (omega (arith, rw nil at quote))
not_cut text (x ∷ pieces) quote endless (a, here, one, cut) =
    endless (length x) (rw (here, take_at x a (length x) refl, drop_at x a (length x) refl) one)

pub unclosed_has_none : (text : List ℕ) (line : ℕ) → IsUnclosed text line → (words : List Word) → ¬ AreTokens text words
unclosed_has_none text line un words (pieces, cut, is) =
    let later = cut_rest text un.rest un.pieces pieces un.cut cut in not_cut un.rest later.0 un.quote un.endless later.1
