-- Millionths of a micron in database units, by sign and magnitude.
use Rattle.std.proofs.Common.{◌≡◌, ℕ, ◌*◌, ◌/◌, ◌%◌, ◌≤◌, true, false, ℤ, pos, negsuc, int_lt, unsigned_abs, Ok, Err, nat_le, cond, refl, sym, subst, arith}
use Rattle.std.proofs.lemmas.Int.{ints}
use Rattle.std.proofs.lemmas.Bool.Decides.{nat_tests}
use Rattle.leg_lex.specs.Number.{IsUnits, AreUnits, signed, within}
use Rattle.leg_lex.specs.declared.limits.TheConstants.{NUMBER_LIMIT}
use Rattle.leg_lex.specs.declared.fault.NumFault.TheVariants.{TooLarge}
use Rattle.leg_lex.proofs.InBits.{magnitude}

-- the units, where they come out even
units_of : (m : ℤ) (n : ℕ) → unsigned_abs m * n % 1000000 ≡ 0 → IsUnits m n (signed (int_lt m (pos 0)) (unsigned_abs m * n / 1000000))
units_of (pos a) n even = let e : int_lt (pos a) (pos 0) ≡ false = grind (arith, ints) in rw e (omega (arith, ints))
units_of (negsuc a) n even = omega (arith, ints)

pub are_units : (m : ℤ) (n : ℕ) → unsigned_abs m * n % 1000000 ≡ 0
    → AreUnits m n (within NUMBER_LIMIT (int_lt m (pos 0)) (unsigned_abs m * n / 1000000))
are_units m n even =
    let units = signed (int_lt m (pos 0)) (unsigned_abs m * n / 1000000) in
    let is = units_of m n even in
    let mag = magnitude (int_lt m (pos 0)) (unsigned_abs m * n / 1000000) in
    elim (nat_le (unsigned_abs m * n / 1000000) NUMBER_LIMIT) as
    (λ b. nat_le (unsigned_abs m * n / 1000000) NUMBER_LIMIT ≡ b → AreUnits m n (cond b (Ok units) (Err TooLarge))) [
      | true ↦ λ below. (is, subst (λ k. k ≤ NUMBER_LIMIT) (sym mag) (grind (arith, nat_tests)))
      | false ↦ λ above. (units, is, subst (λ k. ¬ (k ≤ NUMBER_LIMIT)) (sym mag) (grind (arith, nat_tests)))
    ] refl
