-- Whole numbers: facts by tests, and tests by facts.
use Rattle.std.proofs.Common.{◌≡◌, ℤ, ◌<ℤ◌, ◌≤ℤ◌, int_eq, true, false, ◌⊎◌, inl, inr, arith}
use Rattle.std.specs.Prelude.{int_lt, int_le}
use Rattle.std.proofs.lemmas.Int.{ints, by_lt_z}

pub lt_from_test : (a b : ℤ) → int_lt a b ≡ true → a <ℤ b
lt_from_test a b test = grind (arith, ints)

pub lt_test : (a b : ℤ) → a <ℤ b → int_lt a b ≡ true
lt_test a b less = grind (arith, ints)

pub least_from_test : (a b : ℤ) → int_lt a b ≡ false → b ≤ℤ a
least_from_test a b test = grind (arith, ints)

pub not_lt_test : (a b : ℤ) → a <ℤ b → int_lt b a ≡ false
not_lt_test a b less = grind (arith, ints)

pub le_from_test : (a b : ℤ) → int_le a b ≡ true → a ≤ℤ b
le_from_test a b test = grind (arith, ints)

pub le_test : (a b : ℤ) → a ≤ℤ b → int_le a b ≡ true
le_test a b upto = grind (arith, ints)

pub eq_from_test : (a b : ℤ) → int_eq a b ≡ true → a ≡ b
eq_from_test a b test = grind (arith, ints)

-- one number is below another one, or at least as great
pub cases_lt_z : (a b : ℤ) → (a <ℤ b) ⊎ (b ≤ℤ a)
cases_lt_z a b = by_lt_z a b inl inr

pub lt_trans_z : (a b c : ℤ) → a <ℤ b → b <ℤ c → a <ℤ c
lt_trans_z a b c p q = omega (arith, ints)
