-- Tests, and what they test.
use Rattle.std.proofs.Common.{◌≡◌, ℕ, ◌<◌, ◌≤◌, ℤ, true, false, nat_le, nat_lt, arith}
use Rattle.std.specs.Ordering.{int_eq}
use Rattle.std.proofs.lemmas.Int.{ints}
use Rattle.std.proofs.lemmas.Bool.Decides.{nat_tests}
use Rattle.leg_lex.specs.Number.{IsNumber}
use Rattle.leg_grammar.specs.Def.Guard.{is_within}

pub within_is : (z : ℤ) → IsNumber z → is_within z ≡ true
within_is z is = grind (arith, nat_tests)

pub same_is : (a : ℤ) → int_eq a a ≡ true
same_is a = grind (arith, ints)

-- there is room for one more
pub room_is : (n limit : ℕ) → n < limit → nat_le limit n ≡ false
room_is n limit less = grind (arith, nat_tests)

-- there are no more than fit
pub not_above : (n limit : ℕ) → n ≤ limit → nat_lt limit n ≡ false
not_above n limit le = grind (arith, nat_tests)
