-- The numbers for which something holds, in increasing order, as a walk goes on.
use Rattle.std.proofs.Common.{◌≡◌, ℕ, ◌+◌, ◌<◌, List, [], ◌∷◌, ◌++◌, All, AllPairs, Contains, inl, inr, arith}
use Rattle.std.proofs.lemmas.Bool.{cases_lt}
use Rattle.std.proofs.lemmas.List.Elements.{All-nil, All-push, All-weaker, Contains-append_left, Contains-push}
use Rattle.std.proofs.lemmas.List.Quantifiers.{all_pairs_push}
use Rattle.leg_lemmas.proofs.RisingLists.{AllPairs-nil}

module _ (Holds : ℕ → Type 0) where
  -- it is one of the first numbers, and this holds of it
  pub record IsBelow (end k : ℕ) : Type 0 where
    pub below : k < end
    pub holds : Holds k

  -- those of the first numbers of which it holds
  pub record AreBelow (end : ℕ) (numbers : List ℕ) : Type 0 where
    pub increasing : AllPairs (λ j k. j < k) numbers
    pub each : All (IsBelow end) numbers
    pub all : (k : ℕ) → k < end → Holds k → Contains numbers k

  pub below_none : AreBelow 0 []
  below_none = record { increasing = AllPairs-nil (λ j k. j < k); each = All-nil (IsBelow 0); all = λ k below. absurd (omega (arith, below)) }

  module _ (i : ℕ) (numbers : List ℕ) (done : AreBelow i numbers) where
    later : (k : ℕ) → IsBelow i k → IsBelow (i + 1) k
    later k is = record { below = omega (arith, is.below); holds = is.holds }

    -- it holds of one more
    pub below_more : Holds i → AreBelow (i + 1) (numbers ++ i ∷ [])
    below_more holds = record {
      increasing = all_pairs_push (λ j k. j < k) numbers i done.increasing (All-weaker (IsBelow i) (λ k. k < i) (λ k is. is.below) numbers done.each);
      each =
          All-push (IsBelow (i + 1)) numbers i (All-weaker (IsBelow i) (IsBelow (i + 1)) later numbers done.each)
          (record { below = omega arith; holds = holds });
      all = λ k below is. elim (cases_lt k i) [
        | inl before ↦ Contains-append_left numbers (i ∷ []) k (done.all k before is)
        | inr late ↦
            let here : k ≡ i = omega (arith, late, below) in
            rw here (Contains-push numbers i)
      ];
    }

    -- it doesn't
    pub below_skip : (Holds i → ⊥) → AreBelow (i + 1) numbers
    below_skip never = record {
      increasing = done.increasing;
      each = All-weaker (IsBelow i) (IsBelow (i + 1)) later numbers done.each;
      all = λ k below is. elim (cases_lt k i) [
        | inl before ↦ done.all k before is
        | inr late ↦
            let here : k ≡ i = omega (arith, late, below) in
            absurd (never (rw here at is))
      ];
    }
