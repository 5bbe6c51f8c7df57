-- The words of a text, in order, each with its line.
use Rattle.std.specs.Prelude.{◌≡◌, ℕ, ◌+◌, ◌-◌, ◌==◌, ◌&&◌, nat_lt, if◌then◌else◌, List, [], ◌∷◌, ◌++◌, length, take, slice_index, count_by}
use Rattle.leg_lex.specs.Word.{Word}
use Rattle.leg_lex.specs.Cut.{Kind, White, Comment, Quoted, Plain, kind_of, is_line_feed, Cut}

-- a plain word of two bytes or more whose last byte is `;` (59) is two words: the `;` is a word by itself
abbrev pub plain_words : ℕ → List ℕ → List Word
plain_words line word =
    let last = length word - 1 in
    if nat_lt 0 last && slice_index word last == 59
    then record { text = take last word; line = line } ∷ record { text = 59 ∷ []; line = line } ∷ []
    else record { text = word; line = line } ∷ []

-- the words of a piece of this kind that begins in this line: white space and comments have none
abbrev pub words_of : Kind → ℕ → List ℕ → List Word
words_of White line piece = []
words_of Comment line piece = []
words_of Quoted line piece = record { text = piece; line = line } ∷ []
words_of Plain line piece = plain_words line piece

abbrev pub words_in : ℕ → List ℕ → List Word
words_in line [] = []
words_in line (b ∷ bytes) = words_of (kind_of b) line (b ∷ bytes)

-- the words of the pieces; the first piece begins in this line
abbrev pub words_from : ℕ → List (List ℕ) → List Word
words_from line [] = []
words_from line (piece ∷ pieces) = words_in line piece ++ words_from (line + count_by is_line_feed piece) pieces

-- The text is cut into pieces, and these are their words. There is at most one such cut.
abbrev pub AreTokens : List ℕ → List Word → Type 0
AreTokens text words = (pieces : List (List ℕ)) × Cut pieces text × (words ≡ words_from 1 pieces)
