-- The whole numbers that words say are within their limit, and so they are coordinates.
use Rattle.std.proofs.Common.{◌≡◌, ℕ, Bool, true, false, List, [], ◌∷◌, ℤ, pos, ◌-ℤ◌, int_lt, int_le, Some, Result, Ok, Err, nat_le, refl, arith}
use Rattle.std.proofs.lemmas.Int.{ints}
use Rattle.std.proofs.lemmas.Bool.Decides.{nat_tests}
use Rattle.std.specs.Str.Parse.{digits_value}
use Rattle.leg_lex.specs.declared.limits.TheConstants.{NUMBER_LIMIT}
use Rattle.leg_lex.specs.declared.fault.NumFault.{NumFault}
use Rattle.leg_lex.specs.Number.{IsNumber, whole_of, is_whole, is_negative, without_sign, within, signed}
use Rattle.leg_lex.specs.Words.{Words, next_at, whole_at}
use Rattle.leg_lex.proofs.Parts.{made_is}
use Rattle.leg_lex.proofs.InBits.{magnitude}
use Rattle.leg_geom.specs.Plane.{IsCoordinate}

within_is : (negative : Bool) (n : ℕ) (z : ℤ) → within NUMBER_LIMIT negative n ≡ Ok z → IsNumber z
within_is negative n z is = by (nat_le n NUMBER_LIMIT) refl where
  by : (small : Bool) → nat_le n NUMBER_LIMIT ≡ small → IsNumber z
  by true small =
      let same : signed negative n ≡ z = cc (rw small at is) in
      rw (← same, magnitude negative n) (grind (arith, nat_tests))
  by false large = absurd (let e : ⊥ = cc (rw large at is) in e)

whole_of_is : (word : List ℕ) (z : ℤ) → whole_of word ≡ Ok z → IsNumber z
whole_of_is word z is = by (is_whole word) refl where
  by : (whole : Bool) → is_whole word ≡ whole → IsNumber z
  by true whole = within_is (is_negative word) (digits_value 10 (without_sign word)) z (rw whole at is)
  by false other = absurd (let e : ⊥ = cc (rw other at is) in e)

pub whole_is_number : (words : Words) (z : ℤ) (rest : Words) → whole_at words ≡ Some (z, rest) → IsNumber z
unfolding whole_at next_at
whole_is_number [] z rest said = absurd (let e : ⊥ = cc in e)
whole_is_number (word ∷ words) z rest said = by (whole_of word) refl where
  by : (number : Result ℤ NumFault) → whole_of word ≡ number → IsNumber z
  by (Ok y) is =
      let same : y ≡ z = made_is y z words rest (rw is at said) in
      whole_of_is word z (rw (← same) is)
  by (Err fault) is = absurd (let e : ⊥ = cc (rw is at said) in e)

number_is_coordinate : (z : ℤ) → IsNumber z → IsCoordinate z
number_is_coordinate z number = omega arith

pub whole_is_coordinate : (words : Words) (z : ℤ) (rest : Words) → whole_at words ≡ Some (z, rest) → IsCoordinate z
whole_is_coordinate words z rest said = number_is_coordinate z (whole_is_number words z rest said)

pub one_less : (z : ℤ) → IsNumber z → int_lt z (pos 1) ≡ false → IsNumber (z -ℤ pos 1)
one_less z number some = grind (arith, ints)

-- a number below one is not one or more
pub below_one : (z : ℤ) → int_lt z (pos 1) ≡ true → int_le (pos 1) z ≡ false
below_one z none = grind (arith, ints)
