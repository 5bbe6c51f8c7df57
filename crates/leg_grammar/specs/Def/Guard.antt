-- Conditions of a form.
use Rattle.std.specs.Prelude.{ℤ, Bool, true, false, nat_le, [], ◌∷◌, Option, None, Some, unsigned_abs}
use Rattle.leg_lex.specs.declared.limits.TheConstants.{NUMBER_LIMIT}
use Rattle.leg_lex.specs.Words.{Words}

-- no value unless the test is met
abbrev pub when : Bool → Option (Unit {0})
when true = Some tt
when false = None

-- no value where the test is met
abbrev pub unless : Bool → Option (Unit {0})
unless true = None
unless false = Some tt

-- no word is left
abbrev pub is_over : Words → Bool
is_over [] = true
is_over (word ∷ words) = false

-- a number is within the limit of numbers
abbrev pub is_within : ℤ → Bool
is_within z = nat_le (unsigned_abs z) NUMBER_LIMIT
