-- How the words of a text are found, one after another.
use Rattle.std.specs.Prelude.{◌≡◌, ℕ, List, ◌++◌, map, All}
use Rattle.leg_lex.specs.declared.word_place.WordPlace.{WordPlace}
use Rattle.leg_lex.specs.Word.{Word}
use Rattle.leg_lex.specs.WordPlaces.{word_at, IsPlaceIn}

-- after the places in the text come those of more words
pub record AddsWords (text : List ℕ) (words : List Word) (before after : List WordPlace) : Type 0 where
  pub more : map (word_at text) after ≡ map (word_at text) before ++ words
  pub within : All (IsPlaceIn text) before → All (IsPlaceIn text) after
