-- Violations told of pairs of shapes: how a list of them goes on.
use Rattle.std.proofs.Common.{◌≡◌, ℕ, ◌+◌, ◌<◌, List, [], ◌∷◌, ◌++◌, length, take, get_or, All, AllPairs, Some, slice_get, ◌⊎◌, inl, inr, refl, sym, ap, ◌∙◌, arith}
use Rattle.std.proofs.lemmas.List.{take_more, get_or-take, get_or_default, length-take-le, append_assoc}
use Rattle.std.proofs.lemmas.List.Elements.{All-push, All-weaker, All-contains, Contains-append_left, Contains-push, Contains-push_cases}
use Rattle.std.proofs.lemmas.List.Quantifiers.{all_pairs_push}
use Rattle.std.proofs.lemmas.Option.{same_Some}
use Rattle.leg_sweep.specs.Pairs.{Before}
use Rattle.leg_design_records.specs.declared.fault.Fault.{Fault}
use Rattle.leg_design_records.specs.Violation.{ComesBefore, IsListOf}
use Rattle.leg_rules.specs.declared.shape.Shape.{Shape}
use Rattle.leg_wire.specs.declared.pair_kind.PairKind.{PairKind}
use Rattle.leg_wire.specs.declared.pair_kind.PairKind.TheVariants.{Short, TooNear}
use Rattle.leg_wire.specs.Steps.PairViolations.{IsOfKind, fault_of, IsPairViolationOf}
use Rattle.leg_wire.specs.Steps.AddedFaults.{AreAdded}

module _ (Told Next : Fault → Type 0) (into : (w : Fault) → Told w → Next w) where
  -- one more violation, which comes behind the others
  listing_push : (v : Fault) (found : List Fault) → Next v → ((w : Fault) → Told w → ComesBefore w v) → ((w : Fault) → Next w → Told w ⊎ (v ≡ w))
      → IsListOf Told found → IsListOf Next (found ++ v ∷ [])
  listing_push v found this later back done = record {
    increasing = all_pairs_push ComesBefore found v done.increasing (All-weaker Told (λ w. ComesBefore w v) later found done.each);
    each = All-push Next found v (All-weaker Told Next into found done.each) this;
    all = λ w told. elim (back w told) [
      | inl earlier ↦ Contains-append_left found (v ∷ []) w (done.all w earlier)
      | inr same ↦ rw (← same) (Contains-push found v)
    ];
  }

  -- no more violation
  listing_same : (found : List Fault) → ((w : Fault) → Next w → Told w) → IsListOf Told found → IsListOf Next found
  listing_same found back done = record {
    increasing = done.increasing;
    each = All-weaker Told Next into found done.each;
    all = λ w told. done.all w (back w told);
  }

-- violations of a kind keep the order of their pairs
keeps : (kind : PairKind) (p q : ℕ × ℕ) → Before p q → ComesBefore (fault_of kind p.0 p.1) (fault_of kind q.0 q.1)
keeps Short p q before = record { kind = omega arith; first = λ _. before.first; second = λ _ same. before.second same }
keeps TooNear p q before = record { kind = omega arith; first = λ _. before.first; second = λ _ same. before.second same }

-- pairs of shapes in increasing order, told as violations of a kind
module _ (kind : PairKind) (shapes : List Shape) (close : List (ℕ × ℕ)) (increasing : AllPairs Before close) (k : ℕ) (within : k < length close) (a b : Shape)
    (a_at : slice_get shapes (get_or close k (0, 0)).0 ≡ Some a) (b_at : slice_get shapes (get_or close k (0, 0)).1 ≡ Some b) where
  abbrev told_here : ℕ × ℕ
  told_here = get_or close k (0, 0)

  grown : take (k + 1) close ≡ take k close ++ told_here ∷ []
  grown = take_more close k (0, 0) within

  all_before : All (λ q. Before q told_here) (take k close)
  all_before m d below =
      let less : m < k = omega (arith, below, length-take-le k close) in
      let rises : Before (get_or close m d) told_here = rw (get_or_default close k d (0, 0) within) at (increasing m k d less within) in
      rw (get_or-take k close m d less) rises

  told_earlier : (w : Fault) → IsPairViolationOf kind shapes (take k close) w → IsPairViolationOf kind shapes (take (k + 1) close) w
  told_earlier w told = record {
    p = told.p;
    is = told.is;
    among = rw grown (Contains-append_left (take k close) (told_here ∷ []) told.p told.among);
    a = told.a;
    b = told.b;
    a_at = told.a_at;
    b_at = told.b_at;
    test = told.test;
  }

  -- this pair passes the test
  pub told_more : (before after : List Fault) → IsOfKind kind a b → AreAdded (IsPairViolationOf kind shapes (take k close)) before after
      → AreAdded (IsPairViolationOf kind shapes (take (k + 1) close)) before (after ++ fault_of kind told_here.0 told_here.1 ∷ [])
  told_more before after passes done =
      let this : IsPairViolationOf kind shapes (take (k + 1) close) (fault_of kind told_here.0 told_here.1) = record {
        p = told_here;
        is = refl;
        among = rw grown (Contains-push (take k close) told_here);
        a = a;
        b = b;
        a_at = a_at;
        b_at = b_at;
        test = passes;
      } in
      record {
        more = done.more ++ fault_of kind told_here.0 told_here.1 ∷ [];
        is = rw (← append_assoc, done.is);
        list =
            listing_push (IsPairViolationOf kind shapes (take k close)) (IsPairViolationOf kind shapes (take (k + 1) close)) told_earlier
            (fault_of kind told_here.0 told_here.1) done.more this
            (λ w told. rw told.is (keeps kind told.p told_here (All-contains (λ q. Before q told_here) (take k close) told.p all_before told.among)))
            (λ w told. elim (Contains-push_cases (take k close) told_here told.p (rw grown at told.among)) [
              | inl earlier ↦ inl (record {
                p = told.p;
                is = told.is;
                among = earlier;
                a = told.a;
                b = told.b;
                a_at = told.a_at;
                b_at = told.b_at;
                test = told.test;
              })
              | inr same ↦ inr (rw same (sym told.is))
            ])
            done.list;
      }

  -- it doesn't
  pub told_skip : (before after : List Fault) → (IsOfKind kind a b → ⊥) → AreAdded (IsPairViolationOf kind shapes (take k close)) before after
      → AreAdded (IsPairViolationOf kind shapes (take (k + 1) close)) before after
  told_skip before after fails done = record {
    more = done.more;
    is = done.is;
    list =
        listing_same (IsPairViolationOf kind shapes (take k close)) (IsPairViolationOf kind shapes (take (k + 1) close)) told_earlier done.more
        (λ w told. elim (Contains-push_cases (take k close) told_here told.p (rw grown at told.among)) [
          | inl earlier ↦ record { p = told.p; is = told.is; among = earlier; a = told.a; b = told.b; a_at = told.a_at; b_at = told.b_at; test = told.test }
          | inr same ↦
              let a_is : a ≡ told.a = same_Some a told.a (sym a_at ∙ ap (λ q. slice_get shapes q.0) same ∙ told.a_at) in
              let b_is : b ≡ told.b = same_Some b told.b (sym b_at ∙ ap (λ q. slice_get shapes q.1) same ∙ told.b_at) in
              absurd (fails (rw (a_is, b_is) told.test))
        ])
        done.list;
  }
