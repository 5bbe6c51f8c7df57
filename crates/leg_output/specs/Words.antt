-- Words as the bytes of a text (LEF/DEF 5.8 allows any white space between words; that it is one blank, and one line
-- feed after the last word of a line, is lefdef's own rule). No form of LEF or DEF is known here.
use Rattle.std.specs.Prelude.{ℕ, Bool, not, ◌-◌, ◌==◌, ◌&&◌, ◌||◌, nat_lt, List, [], ◌∷◌, ◌++◌, length, slice_index}
use Rattle.std.specs.List.{flat_map}
use Rattle.leg_lex.specs.Words.{Words, is_plain, is_closed}

-- each word after a blank (32)
abbrev pub spaced : Words → List ℕ
spaced words = flat_map (λ word. 32 ∷ word) words

-- a line: words separated by one blank, and a line feed (10) at its end; of no words there is no line
abbrev pub line : Words → List ℕ
line [] = []
line (word ∷ words) = word ++ spaced words ++ 10 ∷ []

-- a word of two bytes or more doesn't end with `;` (59): it would be read as two words
abbrev pub stays_one : List ℕ → Bool
stays_one word = not (nat_lt 0 (length word - 1) && slice_index word (length word - 1) == 59)

-- where white space comes before it and after it, it is read as one word: a plain or a quoted one
abbrev pub is_printable : List ℕ → Bool
is_printable word = (is_plain word && stays_one word) || is_closed word

-- lines one after the other: their bytes, and their words
abbrev pub text_of : List Words → List ℕ
text_of lines = flat_map line lines

abbrev pub words_in_lines : List Words → Words
words_in_lines lines = flat_map (λ words. words) lines
