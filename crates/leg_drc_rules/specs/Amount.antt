-- The numbers of rules: lengths and areas of at least 0 (LEF/DEF 5.8, "Layer (Routing)"; that none is below 0 is
-- lefdef's own rule).
use Rattle.std.specs.Prelude.{ℤ, pos, int_lt, if◌then◌else◌, drop, Option, None, Some}
use Rattle.leg_lex.specs.Words.{Words, ◌>>=◌, length_at}

-- a number of at least 0, in millionths
unfoldable pub amount_at : Words → Option (ℤ × Words)
amount_at words = do
  number ← length_at words
  if int_lt number.0 (pos 0) then None else Some number

-- the number that is the second word of a statement
unfoldable pub amount_in : Words → Option ℤ
amount_in statement = do
  number ← amount_at (drop 1 statement)
  Some number.0

-- the same of a statement that may be missing
abbrev pub amount_of_any : Option Words → Option (Option ℤ)
amount_of_any None = Some None
amount_of_any (Some statement) = amount_in statement >>= λ amount. Some (Some amount)
