-- What a line or an entry of a text denotes.
use Rattle.std.specs.Prelude.{◌≡◌, ℕ, List, ◌++◌, Option, Some}
use Rattle.leg_lex.specs.Word.{Word, texts}
use Rattle.leg_lex.specs.Words.{Words}
use Rattle.leg_lex.specs.Tokens.{AreTokens}

-- the tokens of the bytes denote this, whatever words come after them
pub record DenotesForm {Said : Type 0} (form : Words → Option (Said × Words)) (bytes : List ℕ) (said : Said) : Type 0 where
  pub tokens : List Word
  pub are : AreTokens bytes tokens
  pub reads : (rest : Words) → form (texts tokens ++ rest) ≡ Some (said, rest)

-- the words of the bytes, as the tokens have them, denote this; how many bytes there are is not asked
pub record WordsDenote {Said : Type 0} (denoted : Words → Option Said) (bytes : List ℕ) (said : Said) : Type 0 where
  pub tokens : List Word
  pub are : AreTokens bytes tokens
  pub reads : denoted (texts tokens) ≡ Some said
