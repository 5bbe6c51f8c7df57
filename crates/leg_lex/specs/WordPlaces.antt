-- The words of a text by their places: what is seen of `Words` and of a `Cursor`.
use Rattle.std.specs.Prelude.{ℕ, ◌≤◌, List, length, slice_range}
use Rattle.leg_lex.specs.declared.word_place.WordPlace.{WordPlace}
use Rattle.leg_lex.specs.Word.{Word}

-- the place lies in the text
pub record IsPlaceIn (text : List ℕ) (place : WordPlace) : Type 0 where
  pub order : place.start ≤ place.end
  pub within : place.end ≤ length text

-- the bytes there
abbrev pub bytes_at : List ℕ → WordPlace → List ℕ
bytes_at text place = slice_range text place.start place.end

-- the word there
abbrev pub word_at : List ℕ → WordPlace → Word
word_at text place = record { text = bytes_at text place; line = place.line }
