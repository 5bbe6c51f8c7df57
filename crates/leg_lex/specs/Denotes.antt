-- What a text denotes.
use Rattle.std.specs.Prelude.{◌≡◌, ℕ, ◌≤◌, List, length, Option, Some}
use Rattle.leg_lex.specs.declared.limits.TheConstants.{TEXT_LIMIT}
use Rattle.leg_lex.specs.Word.{Word, texts}
use Rattle.leg_lex.specs.Words.{Words}
use Rattle.leg_lex.specs.Tokens.{AreTokens}

-- a text denotes what its words are read as, where it isn't too long
pub record Denotes {Said : Type 0} (reading : Words → Option Said) (text : List ℕ) (said : Said) : Type 0 where
  pub fits : length text ≤ TEXT_LIMIT
  pub words : List Word
  pub tokens : AreTokens text words
  pub reads : reading (texts words) ≡ Some said

-- these are the words of the text, and no others
pub record HasWords (text : List ℕ) (words : List Word) : Type 0 where
  pub fits : length text ≤ TEXT_LIMIT
  pub tokens : AreTokens text words
  pub only : (others : List Word) → AreTokens text others → others ≡ words

-- the text has no words, or is too long
abbrev pub HasNoWords : List ℕ → Type 0
HasNoWords text = (words : List Word) → length text ≤ TEXT_LIMIT → ¬ AreTokens text words
