-- Numbers of at least 0 (LEF/DEF 5.8, "DEF Syntax").
use Rattle.std.specs.Prelude.{ℤ, pos, int_lt, Option, Some}
use Rattle.leg_lex.specs.Words.{Words, ◌>>=◌, whole_at}
use Rattle.leg_grammar.specs.Def.Guard.{unless}

-- a number of at least 0
unfoldable pub count_at : Words → Option (ℤ × Words)
count_at words = do
  z ← whole_at words
  some ← unless (int_lt z.0 (pos 0))
  Some (z.0, z.1)
