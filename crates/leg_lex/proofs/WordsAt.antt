-- The words at places of a text.
use Rattle.std.proofs.Common.{◌≡◌, ℕ, zero, suc, ◌+◌, ◌-◌, ◌<◌, ◌≤◌, true, ◌==◌, nat_lt, List, [], ◌∷◌, ◌++◌, length, map, take, drop, get_or, slice_range, count_by, Result, Ok, Err, OnOk, refl, sym, ap, ◌∙◌, add-zero, arith}
use Rattle.std.proofs.Math.Nat.{add-sub_cancel_left}
use Rattle.std.proofs.Math.Seq.{take-suc, drop-cons}
use Rattle.std.proofs.lemmas.List.{append_assoc, append-nil, take-take, drop-drop, length-take, length-take-le, length-drop, take_all, get_or-take, get_or-drop}
use Rattle.std.proofs.lemmas.List.Sums.{count_by-le-length}
use Rattle.std.proofs.lemmas.Bool.{lt-ltb}
use Rattle.leg_lex.specs.declared.word_place.WordPlace.{WordPlace}
use Rattle.leg_lex.specs.Word.{Word, texts}
use Rattle.leg_lex.specs.Cut.{Plain, kind_of, is_white, is_line_feed, IsPiece, IsUnclosed}
use Rattle.leg_lex.specs.Tokens.{plain_words, words_in}
use Rattle.leg_lex.specs.WordPlaces.{bytes_at, word_at}
use Rattle.leg_lex.specs.Steps.MoreWords.{AddsWords}
use Rattle.leg_lex.proofs.Cuts.{HasRead, read_more, read_stuck}
use Rattle.leg_lex.proofs.LineFeeds.{plain_feeds_none}

-- the words without their lines are the bytes there
pub texts_at : (text : List ℕ) (places : List WordPlace) → map (bytes_at text) places ≡ texts (map (word_at text) places)
texts_at text [] = refl
texts_at text (place ∷ places) = ap (λ ws. bytes_at text place ∷ ws) (texts_at text places)

range_on : (text : List ℕ) (at n : ℕ) → slice_range text at (at + n) ≡ take n (drop at text)
range_on text at n = ap (λ k. take k (drop at text)) (add-sub_cancel_left at n)

range_length : (text : List ℕ) (start end : ℕ) → start ≤ end → end ≤ length text → length (slice_range text start end) ≡ end - start
range_length text start end order within =
    length-take-le (end - start) (drop start text) (omega (arith, length-drop start text))

range_last : (text : List ℕ) (start end : ℕ) → start < end → end ≤ length text
    → get_or (slice_range text start end) (length (slice_range text start end) - 1) 0 ≡ get_or text (end - 1) 0
range_last text start end order within =
    let long = range_length text start end (omega arith) within in
    let at : start + (end - start - 1) ≡ end - 1 = omega arith in
    rw long (get_or-take (end - start) (drop start text) (end - start - 1) 0 (omega arith)) ∙ get_or-drop start text (end - start - 1) 0
    ∙ ap (λ k. get_or text k 0) at

-- a word up to its last byte, and that byte
range_front : (text : List ℕ) (start end : ℕ) → start < end → end ≤ length text
    → take (length (slice_range text start end) - 1) (slice_range text start end) ≡ slice_range text start (end - 1)
range_front text start end order within =
    let long = range_length text start end (omega arith) within in
    let at : end - start - 1 ≡ end - 1 - start = omega arith in
    rw long (take-take (end - start - 1) (end - start) (drop start text) (omega arith)) ∙ ap (λ k. take k (drop start text)) at

range_one : (text : List ℕ) (k : ℕ) → k < length text → slice_range text k (k + 1) ≡ get_or text k 0 ∷ []
range_one text k less =
    let some : 0 < length (drop k text) = omega (arith, length-drop k text) in
    range_on text k 1 ∙ take-suc (drop k text) 0 0 some
    ∙ ap (λ b. b ∷ []) (get_or-drop k text 0 0 ∙ ap (λ j. get_or text j 0) (let e : k + 0 ≡ k = omega arith in e))

-- a longer plain word that ends with `;` is two words
pub two_words : (text : List ℕ) (start end line : ℕ) → 1 < end - start → end ≤ length text → get_or text (end - 1) 0 ≡ 59
    → plain_words line (slice_range text start end) ≡ record { text = slice_range text start (end - 1); line = line }
    ∷ record { text = slice_range text (end - 1) end; line = line } ∷ []
two_words text start end line long within semicolon =
    let size = range_length text start end (omega arith) within in
    let more : 0 < end - start - 1 = omega arith in
    let some : nat_lt 0 (length (slice_range text start end) - 1) ≡ true = rw size (lt-ltb 0 (end - start - 1) more) in
    let last : (get_or (slice_range text start end) (length (slice_range text start end) - 1) 0 == 59) ≡ true =
    rw (range_last text start end (omega arith) within, semicolon) refl in
    let up : end - 1 + 1 ≡ end = omega arith in
    let front = range_front text start end (omega arith) within in
    let end_word : slice_range text (end - 1) end ≡ 59 ∷ [] =
    ap (λ e. slice_range text (end - 1) e) (sym up) ∙ range_one text (end - 1) (omega arith) ∙ ap (λ b. b ∷ []) semicolon in
    rw (some, last, front, end_word) refl

-- words are added one after the other
pub adds_both : (text : List ℕ) (one other : List Word) (before between after : List WordPlace) → AddsWords text one before between
    → AddsWords text other between after → AddsWords text (one ++ other) before after
adds_both text one other before between after first second = record {
  more = second.more ∙ ap (λ ws. ws ++ other) first.more ∙ append_assoc (map (word_at text) before) one other;
  within = λ all. second.within (first.within all);
}

pub then_adds : {X E : Type 0} (text : List ℕ) (one other : List Word) (before between after : List WordPlace) (r : Result X E)
    → AddsWords text one before between → OnOk r (AddsWords text other between after) → OnOk r (AddsWords text (one ++ other) before after)
then_adds text one other before between after (Ok x) first second = adds_both text one other before between after first second
then_adds text one other before between after (Err e) first second = tt

-- a piece is read
pub read_on : (text : List ℕ) (at line n : ℕ) (before after : List WordPlace) → HasRead text (drop at text) line (map (word_at text) before)
    → IsPiece (take n (drop at text)) (drop n (drop at text))
    → AddsWords text (words_in line (slice_range text at (at + n))) before after
    → HasRead text (drop (at + n) text) (line + count_by is_line_feed (slice_range text at (at + n))) (map (word_at text) after)
read_on text at line n before after read is_piece adds =
    rw (adds.more, range_on text at n, ← drop-drop n at text) (read_more text (drop at text) line (map (word_at text) before) n read is_piece)

pub range_piece : (text : List ℕ) (at n : ℕ) → IsPiece (take n (drop at text)) (drop n (drop at text))
    → (after : List ℕ) × IsPiece (slice_range text at (at + n)) after
range_piece text at n is_piece = (drop n (drop at text), rw (range_on text at n) is_piece)

pub nothing_left : (text : List ℕ) (at : ℕ) → length text ≤ at → length (drop at text) ≡ 0
nothing_left text at over = omega (arith, length-drop at text)

rest_all : (text : List ℕ) (at : ℕ) → slice_range text at (length text) ≡ drop at text
rest_all text at = take_all (length text - at) (drop at text) (omega (arith, length-drop at text))

pub piece_there : (text : List ℕ) (at n : ℕ) → IsPiece (take n (slice_range text at (length text))) (drop n (slice_range text at (length text)))
    → IsPiece (take n (drop at text)) (drop n (drop at text))
piece_there text at n is_piece = rw (rest_all text at) at is_piece

pub inside : (text : List ℕ) (at n : ℕ) → at ≤ length text → n ≤ length (slice_range text at (length text)) → at + n ≤ length text
inside text at n within small = omega (arith, ap length (rest_all text at), length-drop at text)

-- at a quote that begins no piece
pub stuck_at : (text : List ℕ) (at line : ℕ) (words : List Word) → at < length text → HasRead text (drop at text) line words
    → (0 < length (slice_range text at (length text)) → get_or (slice_range text at (length text)) 0 0 ≡ 34)
    → ((n : ℕ) → IsPiece (take n (slice_range text at (length text))) (drop n (slice_range text at (length text))) → ⊥) → IsUnclosed text line
stuck_at text at line words less read quote endless =
    let some : 0 < length (slice_range text at (length text)) = omega (arith, ap length (rest_all text at), length-drop at text) in
    read_stuck text (drop at text) line words read (rw (rest_all text at) at (quote some)) (rw (rest_all text at) at endless)

range_short : (text : List ℕ) (at n : ℕ) → length (slice_range text at (at + n)) ≤ n
range_short text at n = rw (range_on text at n) (omega (arith, length-take n (drop at text)))

pub lines_below : (text : List ℕ) (at n line : ℕ) → line ≤ at + 1 → line + count_by is_line_feed (slice_range text at (at + n)) ≤ at + n + 1
lines_below text at n line below = omega (arith, count_by-le-length is_line_feed (slice_range text at (at + n)), range_short text at n)

-- a white byte is read, which has no words
pub white_on : (text : List ℕ) (at line : ℕ) (places : List WordPlace) → at < length text → is_white (get_or text at 0) ≡ true
    → HasRead text (drop at text) line (map (word_at text) places)
    → HasRead text (drop (at + 1) text) (line + count_by is_line_feed (get_or text at 0 ∷ [])) (map (word_at text) places)
white_on text at line places less white read =
    let b = get_or text at 0 in
    let cut : drop at text ≡ b ∷ drop (suc at) text = drop-cons text at 0 less in
    let is : IsPiece (b ∷ []) (drop (suc at) text) = rw white refl in
    let front : take 1 (drop at text) ≡ b ∷ [] = rw cut refl in
    let after : drop 1 (drop at text) ≡ drop (suc at) text = rw cut refl in
    let none : words_in line (b ∷ []) ≡ [] = rw white refl in
    let more = read_more text (drop at text) line (map (word_at text) places) 1 read (rw (front, after) is) in
    let next : at + 1 ≡ suc at = omega arith in
    rw next (rw (front, after, none, append-nil) at more)

-- a plain word is read
pub plain_on : (text : List ℕ) (at line n : ℕ) (before after : List WordPlace) → HasRead text (drop at text) line (map (word_at text) before) → at < length text
    → kind_of (get_or text at 0) ≡ Plain → 0 < n → IsPiece (take n (slice_range text at (length text))) (drop n (slice_range text at (length text)))
    → AddsWords text (plain_words line (slice_range text at (at + n))) before after → HasRead text (drop (at + n) text) line (map (word_at text) after)
plain_on text at line zero before after read less plain some is_piece adds = absurd (omega (arith, some))
plain_on text at line (suc m) before after read less plain some is_piece adds =
    let b = get_or text at 0 in
    let piece = piece_there text at (suc m) is_piece in
    let cut : drop at text ≡ b ∷ drop (suc at) text = drop-cons text at 0 less in
    let range : slice_range text at (at + suc m) ≡ b ∷ take m (drop (suc at) text) = range_on text at (suc m) ∙ ap (take (suc m)) cut in
    let words : words_in line (slice_range text at (at + suc m)) ≡ plain_words line (slice_range text at (at + suc m)) = rw (range, plain) refl in
    let feeds : count_by is_line_feed (slice_range text at (at + suc m)) ≡ 0 =
    rw range (plain_feeds_none b (take m (drop (suc at) text)) (drop m (drop (suc at) text)) plain (rw cut at piece)) in
    let more = read_on text at line (suc m) before after read piece (rw words adds) in
    rw (feeds, add-zero line) at more

pub next_inside : (text : List ℕ) (at : ℕ) → at < length text → at + 1 ≤ length text
next_inside text at less = omega arith
