-- Each word of a text is a mark, a name or a quoted word.
use Rattle.std.proofs.Common.{◌≡◌, ℕ, zero, suc, ◌+◌, ◌-◌, ◌<◌, IsTrue, Bool, true, false, ◌&&◌, ◌||◌, ◌==◌, nat_lt, List, [], ◌∷◌, All, length, take, slice_index, count_by, refl, arith}
use Rattle.std.specs.List.{list_any}
use Rattle.std.proofs.lemmas.Bool.Decides.{nat_tests}
use Rattle.std.proofs.lemmas.List.Elements.{All-nil, All-cons, All-append}
use Rattle.leg_lex.specs.Word.{Word}
use Rattle.leg_lex.specs.Cut.{Kind, White, Comment, Quoted, Plain, kind_of, Ends, CutTo, is_white, is_line_feed}
use Rattle.leg_lex.specs.Tokens.{plain_words, words_of, words_in, words_from, AreTokens}
use Rattle.leg_lex.specs.Words.{is_mark, is_plain, is_closed, is_word}
use Rattle.leg_lex.proofs.OneWord.{closes_always, no_white}
use Rattle.leg_lex.proofs.PieceKinds.{quoted_byte}

-- a mark, a name or a quoted word
abbrev pub IsAWord : Word → Type 0
IsAWord word = IsTrue (is_mark word.text || is_word word.text)

plain_is : (word : List ℕ) → is_plain word ≡ true → IsTrue (is_mark word || is_word word)
plain_is word plain = by (is_mark word) refl where
  by : (mark : Bool) → is_mark word ≡ mark → IsTrue (is_mark word || is_word word)
  by true is = rw is refl
  by false is = rw (is, plain) refl

quoted_is : (word : List ℕ) → is_closed word ≡ true → IsTrue (is_mark word || is_word word)
quoted_is word closed = by (is_mark word) (is_plain word) refl refl where
  by : (mark plain : Bool) → is_mark word ≡ mark → is_plain word ≡ plain → IsTrue (is_mark word || is_word word)
  by true plain is of_kind = rw is refl
  by false true is of_kind = rw (is, of_kind) refl
  by false false is of_kind = rw (is, of_kind, closed) refl

none_taken : (n : ℕ) (bytes : List ℕ) → list_any is_white bytes ≡ false → list_any is_white (take n bytes) ≡ false
none_taken zero bytes none = refl
none_taken (suc n) [] none = refl
none_taken (suc n) (b ∷ bytes) none = by (none_taken n bytes) (is_white b) refl where
  by : (list_any is_white bytes ≡ false → list_any is_white (take n bytes) ≡ false) → (white : Bool) → is_white b ≡ white
      → list_any is_white (take (suc n) (b ∷ bytes)) ≡ false
  by later true is = absurd (let e : ⊥ = cc (rw is at none) in e)
  by later false is = rw (is, later (rw is at none)) refl

-- a plain word without its last byte, where others are before it
plain_before : (b n : ℕ) (bytes : List ℕ) → kind_of b ≡ Plain → list_any is_white bytes ≡ false → 0 < n → is_plain (take n (b ∷ bytes)) ≡ true
plain_before b zero bytes is none some = absurd (omega arith)
plain_before b (suc n) bytes is none some = rw (is, none_taken n bytes none) refl

plain_words_are : (line b : ℕ) (bytes : List ℕ) → kind_of b ≡ Plain → list_any is_white bytes ≡ false → All IsAWord (plain_words line (b ∷ bytes))
plain_words_are line b bytes is none = by (nat_lt 0 last && slice_index (b ∷ bytes) last == 59) refl where
  last : ℕ
  last = length (b ∷ bytes) - 1

  by : (two : Bool) → (nat_lt 0 last && slice_index (b ∷ bytes) last == 59) ≡ two → All IsAWord (plain_words line (b ∷ bytes))
  by true two =
      let some : 0 < last = grind (arith, nat_tests) in
      let end : Word = record { text = 59 ∷ []; line = line } in
      let front : Word = record { text = take last (b ∷ bytes); line = line } in
      let both : All IsAWord (front ∷ end ∷ []) =
      All-cons IsAWord front (end ∷ []) (plain_is front.text (plain_before b last bytes is none some)) (All-cons IsAWord end [] refl (All-nil IsAWord)) in
      rw two both
  by false one =
      let whole : Word = record { text = b ∷ bytes; line = line } in
      let only : All IsAWord (whole ∷ []) = All-cons IsAWord whole [] (plain_is (b ∷ bytes) (rw (is, none) refl)) (All-nil IsAWord) in
      rw one only

piece_words : (kind : Kind) (line b : ℕ) (bytes after : List ℕ) → kind_of b ≡ kind → Ends kind b bytes after → All IsAWord (words_of kind line (b ∷ bytes))
piece_words White line b bytes after is ends = All-nil IsAWord
piece_words Comment line b bytes after is ends = All-nil IsAWord
piece_words Quoted line b bytes after is ends =
    let quote : b ≡ 34 = quoted_byte b is in
    let closed : is_closed (b ∷ bytes) ≡ true = rw (quote, closes_always 34 bytes (rw quote at ends)) refl in
    All-cons IsAWord (record { text = b ∷ bytes; line = line }) [] (quoted_is (b ∷ bytes) closed) (All-nil IsAWord)
piece_words Plain line b bytes after is ends = plain_words_are line b bytes is (no_white bytes after ends)

words_are : (line : ℕ) (text rest : List ℕ) (pieces : List (List ℕ)) → CutTo rest pieces text → All IsAWord (words_from line pieces)
words_are line text rest [] cut = All-nil IsAWord
words_are line text rest ([] ∷ pieces) (after, here, is_piece, cut) = absurd is_piece
words_are line text rest ((b ∷ bytes) ∷ pieces) (after, here, is_piece, cut) =
    All-append IsAWord (words_in line (b ∷ bytes)) (words_from (line + count_by is_line_feed (b ∷ bytes)) pieces)
    (piece_words (kind_of b) line b bytes after refl is_piece) (words_are (line + count_by is_line_feed (b ∷ bytes)) after rest pieces cut)

-- so no other words are those of a text
pub texts_have_words : (text : List ℕ) (words : List Word) → AreTokens text words → All IsAWord words
texts_have_words text words (pieces, cut, is) = rw is (words_are 1 text [] pieces cut)
