-- One more shape, which is a candidate or isn't.
use Rattle.std.proofs.Common.{◌≡◌, ℕ, ◌+◌, ◌<◌, List, [], ◌∷◌, ◌++◌, length-append, Some, slice_get, All, inl, inr, refl, sym, ap, ◌∙◌, arith}
use Rattle.std.proofs.lemmas.Bool.{cases_lt}
use Rattle.std.proofs.lemmas.List.Elements.{All-nil, All-cons, All-append, All-weaker, Contains-append_left, Contains-append_right}
use Rattle.std.proofs.lemmas.List.Kept.{AllPairs-cons}
use Rattle.std.proofs.lemmas.Option.{same_Some}
use Rattle.leg_lemmas.proofs.Contents.{Contains-here}
use Rattle.leg_lemmas.proofs.RisingLists.{AllPairs-nil, AllPairs-append_by}
use Rattle.leg_rules.specs.declared.shape.Shape.{Shape}
use Rattle.leg_drc.specs.declared.candidate.Candidate.{Candidate}
use Rattle.leg_drc.specs.declared.candidate.Owners.{Owners}
use Rattle.leg_drc.specs.Steps.Candidates.{IsCandidate, HasLowerNumber, AreCandidates}

module _ (owners : Owners) (reaches : List ℕ) (shapes : List Shape) where
  module _ (k : ℕ) (shape : Shape) (found : List Candidate) (at : slice_get shapes k ≡ Some shape) (are : AreCandidates owners reaches shapes k found) where
    still_below : All (λ candidate. candidate.number < k + 1) found
    still_below =
        All-weaker (λ candidate. candidate.number < k) (λ candidate. candidate.number < k + 1) (λ candidate low. omega (arith, low)) found are.below

    pub candidate_more : AreCandidates owners reaches shapes (k + 1) (found ++ record { number = k; shape = shape } ∷ [])
    candidate_more = let new : Candidate = record { number = k; shape = shape } in record {
      increasing =
          AllPairs-append_by HasLowerNumber (λ candidate. candidate.number < k) (λ candidate. k ≡ candidate.number) (λ x y low same. omega (arith, low, same))
          found (new ∷ []) are.below
          (All-cons (λ candidate. k ≡ candidate.number) new [] refl (All-nil (λ candidate. k ≡ candidate.number)))
          are.increasing
          (AllPairs-cons HasLowerNumber new [] (All-nil (HasLowerNumber new)) (AllPairs-nil HasLowerNumber));
      below =
          All-append (λ candidate. candidate.number < k + 1) found (new ∷ []) still_below
          (All-cons (λ candidate. candidate.number < k + 1) new [] (omega arith) (All-nil (λ candidate. candidate.number < k + 1)));
      few = omega (arith, length-append found (new ∷ []), are.few);
      each =
          All-append (λ candidate. slice_get shapes candidate.number ≡ Some candidate.shape) found (new ∷ []) are.each
          (All-cons (λ candidate. slice_get shapes candidate.number ≡ Some candidate.shape) new [] at
          (All-nil (λ candidate. slice_get shapes candidate.number ≡ Some candidate.shape)));
      all = λ j other below other_at is. elim (cases_lt j k) [
        | inl low ↦ Contains-append_left found (new ∷ []) (record { number = j; shape = other }) (are.all j other low other_at is)
        | inr high ↦
            let here : j ≡ k = omega (arith, below, high) in
            let same : other ≡ shape = same_Some other shape (sym other_at ∙ ap (slice_get shapes) here ∙ at) in
            rw (here, same) (Contains-append_right found (new ∷ []) new (Contains-here new []))
      ];
    }

    pub candidate_skip : ¬ IsCandidate owners reaches shape → AreCandidates owners reaches shapes (k + 1) found
    candidate_skip isnt = record {
      increasing = are.increasing;
      below = still_below;
      few = omega (arith, are.few);
      each = are.each;
      all = λ j other below other_at is. elim (cases_lt j k) [
        | inl low ↦ are.all j other low other_at is
        | inr high ↦
            let here : j ≡ k = omega (arith, below, high) in
            let same : other ≡ shape = same_Some other shape (sym other_at ∙ ap (slice_get shapes) here ∙ at) in
            absurd (isnt (rw same at is))
      ];
    }
