-- A line of a text, and how messages show it.
use Rattle.std.specs.Prelude.{ℕ, ◌+◌, ◌-◌, nat_lt, nat_le, ◌&&◌, if◌then◌else◌, List, [], ◌∷◌, ◌++◌, length, map, take, drop, min, replicate, slice_get, unwrap_or, codes}
use Rattle.std.specs.List.{slice_split, fold}
use Rattle.leg_lex.specs.Cut.{is_white, is_line_feed}

-- the line of this number, from 1; empty where the text has fewer
abbrev pub line_of : ℕ → List ℕ → List ℕ
line_of number text = unwrap_or (slice_get (slice_split is_line_feed text) (number - 1)) []

-- a blank (32) for white space, and `?` (63) for all that isn't printable ASCII
abbrev pub shown_byte : ℕ → ℕ
shown_byte b = if is_white b then 32 else (if nat_le 32 b && nat_le b 126 then b else 63)

abbrev pub end_of_shown : List ℕ → List ℕ
end_of_shown line = if nat_lt 200 (length line) then codes " ...\n" else codes "\n"

-- four blanks, at most 200 bytes of the line, and ` ...` where it has more
abbrev pub shown_line : List ℕ → List ℕ
shown_line line = codes "    " ++ map shown_byte (take 200 line) ++ end_of_shown line

-- the text from a byte on, and before it
abbrev pub text_from : ℕ → List ℕ → List ℕ
text_from start text = drop (min start (length text)) text

abbrev pub text_before : ℕ → List ℕ → List ℕ
text_before start text = take (min start (length text)) text

-- the bytes of a text between these two
abbrev pub word_at : ℕ → ℕ → List ℕ → List ℕ
word_at start end text = take (min (end - start) (length (text_from start text))) (text_from start text)

-- a word as it is shown, between grave accents: at most 60 bytes of it; nothing of no word
abbrev pub end_of_word : List ℕ → List ℕ
end_of_word word = if nat_lt 60 (length word) then codes "...`" else codes "`"

abbrev pub shown_word : List ℕ → List ℕ
shown_word [] = []
shown_word (b ∷ bytes) = codes "`" ++ map shown_byte (take 60 (b ∷ bytes)) ++ end_of_word (b ∷ bytes)

-- how many bytes of its line come before the byte that comes next, after this one
abbrev pub next_column : ℕ → ℕ → ℕ
next_column column b = if is_line_feed b then 0 else column + 1

-- how many bytes of its line come before this byte of a text
abbrev pub column_of : ℕ → List ℕ → ℕ
column_of start text = fold next_column 0 (text_before start text)

-- a line that marks so many bytes of the line above, after so many; nothing where they are not shown whole, or none are marked
abbrev pub mark_line : ℕ → ℕ → List ℕ
mark_line column count =
    if nat_lt 0 count && nat_le (column + count) 200
    then codes "    " ++ replicate column 32 ++ replicate count 94 ++ codes "\n" else []
