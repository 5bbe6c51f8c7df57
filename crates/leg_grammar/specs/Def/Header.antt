-- The forms before the sections of a DEF that give one thing each (LEF/DEF 5.8, "DEF Syntax"): 59 is a semicolon.
use Rattle.std.specs.Prelude.{ℕ, pos, ◌&&◌, int_lt, nat_le, if◌then◌else◌, List, Option, None, Some, codes, unsigned_abs}
use Rattle.leg_lex.specs.declared.limits.TheConstants.{UNITS_LIMIT}
use Rattle.leg_lex.specs.Words.{Words, ◌>>=◌, keyword_at, mark_at, name_at, word_at, whole_at}
use Rattle.leg_lex.specs.Past.{past}

-- KEYWORD word ;
unfoldable pub word_after : List ℕ → Words → Option (List ℕ × Words)
word_after keyword words = do
  start ← keyword_at keyword words
  word ← word_at start.1
  end ← mark_at 59 word.1
  Some (word.0, end.1)

-- DESIGN NAME ;
unfoldable pub design_name_at : Words → Option (List ℕ × Words)
design_name_at words = do
  start ← keyword_at (codes "DESIGN") words
  name ← name_at start.1
  end ← mark_at 59 name.1
  Some (name.0, end.1)

-- UNITS DISTANCE MICRONS
unfoldable pub microns_at : Words → Option (Unit {0} × Words)
microns_at words = do
  units ← keyword_at (codes "UNITS") words
  distance ← keyword_at (codes "DISTANCE") units.1
  keyword_at (codes "MICRONS") distance.1

-- n ; with n from 1 to its limit, which is lefdef's own rule
unfoldable pub units_after : Words → Option (ℕ × Words)
units_after words = do
  n ← whole_at words
  end ← mark_at 59 n.1
  if int_lt (pos 0) n.0 && nat_le (unsigned_abs n.0) UNITS_LIMIT then Some (unsigned_abs n.0, end.1) else None

-- UNITS DISTANCE MICRONS n ;
unfoldable pub units_at : Words → Option (ℕ × Words)
units_at words = do
  start ← microns_at words
  units_after start.1

-- the n ; after the first place where UNITS DISTANCE MICRONS follow one another
unfoldable pub units_in : Words → Option ℕ
units_in words = do
  start ← past microns_at words
  n ← units_after start.1
  Some n.0
