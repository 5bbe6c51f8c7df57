-- Products of natural numbers.
use Rattle.std.proofs.Common.{◌≡◌, ℕ, ◌+◌, ◌*◌, arith}
use Rattle.std.proofs.lemmas.Grind.{common_steps}

pub product_more : (k n : ℕ) → (k + 1) * n ≡ k * n + n
product_more k n = grind (arith, common_steps)
