-- Numbers from 0 on, of which each is taken in turn: what a loop over them needs.
use Rattle.std.proofs.Common.{◌≡◌, ℕ, suc, ◌+◌, ◌-◌, ◌<◌, ◌≤◌, ◌∷◌, Option, None, Some, refl, arith}
use Rattle.leg_lex.specs.Until.{over}
use Rattle.leg_grammar.specs.Def.CutArray.{numbers_from}

-- The number is the first of those from it on.
first_number : (n k : ℕ) → k < n → numbers_from k (n - k) ≡ k ∷ numbers_from (k + 1) (n - (k + 1))
unfolding numbers_from
first_number n k less =
    let count : n - k ≡ suc (n - (k + 1)) = omega arith in
    rw count refl

module _ {S : Type 0} (step : S → ℕ → Option S) where
  -- No number is left.
  pub number_ends : (made : S) (n k : ℕ) → n ≤ k → over step made (numbers_from k (n - k)) ≡ Some made
  unfolding over numbers_from
  number_ends made n k past =
      let none : n - k ≡ 0 = omega arith in
      rw none refl

  -- One more number is taken.
  pub number_goes_on : (made next : S) (n k : ℕ) → k < n → step made k ≡ Some next
      → over step made (numbers_from k (n - k)) ≡ over step next (numbers_from (k + 1) (n - (k + 1)))
  unfolding over
  number_goes_on made next n k less said = rw (first_number n k less, said) refl

  -- A number isn't taken.
  pub number_fails : (made : S) (n k : ℕ) → k < n → step made k ≡ None → over step made (numbers_from k (n - k)) ≡ None
  unfolding over
  number_fails made n k less said = rw (first_number n k less, said) refl
