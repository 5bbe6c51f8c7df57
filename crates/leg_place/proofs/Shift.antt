-- Numbers that lie a whole number of steps apart leave the same remainder, and the other way round.
use Rattle.std.proofs.Common.{◌≡◌, ℕ, ◌+◌, ◌-◌, ◌*◌, ◌/◌, ◌%◌, ◌<◌, ◌≤◌, ℤ, pos, ◌+ℤ◌, ◌≤ℤ◌, unsigned_abs, inl, inr, sym, ap, ◌∙◌, arith}
use Rattle.std.specs.Int.{int_rem_euclid}
use Rattle.std.proofs.Math.Nat.{add-mul, add-mul-mod_self_right, le-mul_of_pos_right, mul-le-mul_right}
use Rattle.std.proofs.lemmas.Nat.{div-add-mod'}
use Rattle.std.proofs.lemmas.Bool.{cases_lt}
use Rattle.std.proofs.lemmas.Int.{ints, int_rem_euclid_is}

-- numbers of one remainder lie a whole number of steps apart
quotients : (a b n : ℕ) → a % n ≡ b % n → a / n * n + a % n ≡ a → b / n * n + b % n ≡ b → a ≤ b → (k : ℕ) × (b ≡ a + k * n)
quotients a b n left a_is b_is below =
    elim (cases_lt (b / n) (a / n)) [
      | inl down ↦ (0, omega (arith, mul-le-mul_right {m = b / n} {n = a / n} n (omega (arith, down)), left, a_is, b_is, below))
      | inr up ↦
          let k = a / n in
          let sum : (b / n - a / n) + k ≡ b / n = omega (arith, up) in
          let parts : (b / n - a / n + k) * n ≡ (b / n - a / n) * n + k * n = add-mul (b / n - a / n) k n in
          let whole : (b / n - a / n + k) * n ≡ b / n * n = ap (λ q. q * n) sum in
          (b / n - a / n, omega (arith, left, a_is, b_is, parts, whole))
    ]

module _ (d : ℤ) (n : ℕ) (some : 0 < n) (step : d ≡ pos n) where
  -- so many steps on, a number is a natural one
  raised : (x : ℤ) (t : ℕ) → unsigned_abs x ≤ t → x +ℤ pos (t * n) ≡ pos (unsigned_abs (x +ℤ pos (t * n)))
  raised x t enough = let far : t ≤ t * n = le-mul_of_pos_right t some in omega (arith, ints, far, enough)

  remainder_is : (x : ℤ) (t : ℕ) → unsigned_abs x ≤ t → int_rem_euclid x d ≡ pos (unsigned_abs (x +ℤ pos (t * n)) % n)
  remainder_is x t enough = int_rem_euclid_is x d n t (unsigned_abs (x +ℤ pos (t * n))) some step (raised x t enough)

  -- a whole number of steps on, the remainder is the same
  pub same_shift : (x y : ℤ) (k : ℕ) → y ≡ x +ℤ pos (k * n) → int_rem_euclid x d ≡ int_rem_euclid y d
  same_shift x y k apart =
      let t = unsigned_abs x + unsigned_abs y in
      let m = unsigned_abs (x +ℤ pos (t * n)) in
      let one : int_rem_euclid x d ≡ pos (m % n) = remainder_is x t (omega arith) in
      let other : int_rem_euclid y d ≡ pos (unsigned_abs (y +ℤ pos (t * n)) % n) = remainder_is y t (omega arith) in
      let x_raised = raised x t (omega arith) in
      let y_raised = raised y t (omega arith) in
      let sum : unsigned_abs (y +ℤ pos (t * n)) ≡ m + k * n = omega (arith, ints, x_raised, y_raised, apart) in
      one ∙ ap pos (sym (add-mul-mod_self_right m k n)) ∙ ap (λ z. pos (z % n)) (sym sum) ∙ sym other

  -- a number that is no less and has the same remainder lies a whole number of steps on
  pub steps_between : (x y : ℤ) → int_rem_euclid x d ≡ int_rem_euclid y d → x ≤ℤ y → (k : ℕ) × (y ≡ x +ℤ pos (k * n))
  steps_between x y same order =
      let t = unsigned_abs x + unsigned_abs y in
      let a = unsigned_abs (x +ℤ pos (t * n)) in
      let b = unsigned_abs (y +ℤ pos (t * n)) in
      let x_raised : x +ℤ pos (t * n) ≡ pos a = raised x t (omega arith) in
      let y_raised : y +ℤ pos (t * n) ≡ pos b = raised y t (omega arith) in
      let one : int_rem_euclid x d ≡ pos (a % n) = remainder_is x t (omega arith) in
      let other : int_rem_euclid y d ≡ pos (b % n) = remainder_is y t (omega arith) in
      let left : a % n ≡ b % n = ap unsigned_abs (sym one ∙ same ∙ other) in
      let a_is : a / n * n + a % n ≡ a = div-add-mod' a n in
      let b_is : b / n * n + b % n ≡ b = div-add-mod' b n in
      let below : a ≤ b = omega (arith, ints, x_raised, y_raised, order) in
      let k = quotients a b n left a_is b_is below in
      (k.0, omega (arith, ints, x_raised, y_raised, k.1))
