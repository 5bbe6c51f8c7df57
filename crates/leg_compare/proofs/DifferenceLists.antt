-- Lists of differences up to a rank, and one more.
use Rattle.std.proofs.Common.{◌≡◌, ◌⊎◌, inl, inr, List, [], ◌∷◌, ◌++◌, get_or, Contains, sym, subst}
use Rattle.std.proofs.lemmas.List.Elements.{All-append, All-cons, All-nil, All-weaker, All-contains, Contains-get_or, Contains-append_left, Contains-push}
use Rattle.std.proofs.lemmas.List.Quantifiers.{all_pairs_push}
use Rattle.std.specs.List.{All}
use Rattle.leg_design_records.specs.Records.{DesignModel}
use Rattle.leg_rules.specs.declared.difference.Difference.{Difference}
use Rattle.leg_rules.specs.Compare.Differences.{IsDifference}
use Rattle.leg_rules.specs.Compare.Order.{Rank, rank, IsBelow, IsListedBefore}
use Rattle.leg_compare.specs.Steps.Listing.{AreListedTo}

module _ (first second : DesignModel) where
  -- with another bound, below which no other differences are, the list is the same
  pub listed_on : (bound next : Rank) (list : List Difference) → ((r : Rank) → IsBelow r bound → IsBelow r next)
      → ((d : Difference) → IsDifference first second d → IsBelow (rank d) next → IsBelow (rank d) bound)
      → AreListedTo first second bound list → AreListedTo first second next list
  listed_on bound next list on none listed = record {
    increasing = listed.increasing;
    each = All-weaker (λ d. IsDifference first second d × IsBelow (rank d) bound) (λ d. IsDifference first second d × IsBelow (rank d) next)
        (λ d h. (h.0, on (rank d) h.1)) list listed.each;
    all = λ d is below. listed.all d is (none d is below);
  }

  -- with a bound below which there is one more, the list has it at its end
  pub listed_more : (bound next : Rank) (list : List Difference) (new : Difference) → ((r : Rank) → IsBelow r bound → IsBelow r next)
      → ((r : Rank) → IsBelow r bound → IsBelow r (rank new)) → IsBelow (rank new) next → IsDifference first second new
      → ((d : Difference) → IsDifference first second d → IsBelow (rank d) next → IsBelow (rank d) bound ⊎ (d ≡ new))
      → AreListedTo first second bound list → AreListedTo first second next (list ++ new ∷ [])
  listed_more bound next list new on before within is one listed = record {
    increasing =
        all_pairs_push IsListedBefore list new listed.increasing
        (λ k d less. before (rank (get_or list k d)) (All-contains (λ d. IsDifference first second d × IsBelow (rank d) bound) list
        (get_or list k d) listed.each (Contains-get_or list k d less)).1);
    each =
        All-append (λ d. IsDifference first second d × IsBelow (rank d) next) list (new ∷ [])
        (All-weaker (λ d. IsDifference first second d × IsBelow (rank d) bound) (λ d. IsDifference first second d × IsBelow (rank d) next)
        (λ d h. (h.0, on (rank d) h.1)) list listed.each)
        (one_each new is within);
    all = λ d is_d below. elim (one d is_d below) [
      | inl earlier ↦ Contains-append_left list (new ∷ []) d (listed.all d is_d earlier)
      | inr same ↦ subst (λ e. Contains (list ++ new ∷ []) e) (sym same) (Contains-push list new)
    ];
  } where
    one_each : (e : Difference) → IsDifference first second e → IsBelow (rank e) next → All (λ d. IsDifference first second d × IsBelow (rank d) next) (e ∷ [])
    one_each e is_e below = All-cons (λ d. IsDifference first second d × IsBelow (rank d) next) e [] (is_e, below)
        (All-nil (λ d. IsDifference first second d × IsBelow (rank d) next))
