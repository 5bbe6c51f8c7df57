-- Numbers within their limit stand in 64 bits as they are.
use Rattle.std.proofs.Common.{◌≡◌, ℕ, Bool, true, false, ℤ, unsigned_abs, to_z, of_z, w64, FitsSigned, refl, arith}
use Rattle.std.proofs.lemmas.Int.{ints, to_z-of_z, fits_signed_from_abs}
use Rattle.leg_lex.specs.Number.{IsNumber, signed}

-- the sign of a number changes nothing of its magnitude
pub magnitude : (negative : Bool) (n : ℕ) → unsigned_abs (signed negative n) ≡ n
magnitude true n = omega (arith, ints)
magnitude false n = refl

pub number_fits : (z : ℤ) → IsNumber z → FitsSigned w64 z
number_fits z number = fits_signed_from_abs w64 z (omega (arith, number))

pub number_kept : (z : ℤ) → IsNumber z → to_z w64 (of_z w64 z) ≡ z
number_kept z number = to_z-of_z w64 z (number_fits z number)
