-- What is read past.
use Rattle.std.specs.Prelude.{[], ◌∷◌, Option, codes}
use Rattle.std.specs.Option.{option_or}
use Rattle.leg_lex.specs.Words.{Words, ◌>>=◌, keyword_at}

-- everything up to the first place where the form appears, and the form
unfoldable pub past : {Y : Type 0} → (Words → Option (Y × Words)) → Words → Option (Y × Words)
past form [] = form []
past form (word ∷ words) = option_or (form (word ∷ words)) (past form words)

-- BEGINEXT .. ENDEXT, which LEF and DEF have alike
unfoldable pub past_extension : Words → Option (Unit {0} × Words)
past_extension words = do
  start ← keyword_at (codes "BEGINEXT") words
  past (keyword_at (codes "ENDEXT")) start.1
