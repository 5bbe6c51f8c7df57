-- Shorts and shapes too near one another, told of the pairs that a search found.
use Rattle.std.proofs.Common.{◌≡◌, ℕ, ◌<◌, List, ◌++◌, All, Contains, length, inl, inr, refl, sym, ◌∙◌, arith}
use Rattle.std.proofs.lemmas.List.Elements.{All-append, All-weaker, All-contains, Contains-append_left, Contains-append_right}
use Rattle.std.proofs.lemmas.Option.{slice_get_within, same_Some}
use Rattle.leg_sweep.specs.Pairs.{ArePairs}
use Rattle.leg_geom.specs.Pairs.{IsPair}
use Rattle.leg_sweep.proofs.Lists.{AllPairs-append_by}
use Rattle.leg_lib_records.specs.Records.{LibraryModel}
use Rattle.leg_design_records.specs.declared.fault.Fault.{Fault}
use Rattle.leg_design_records.specs.declared.fault.Fault.TheVariants.{Short, TooNear}
use Rattle.leg_design_records.specs.Violation.{ComesBefore, IsListOf}
use Rattle.leg_rules.specs.declared.shape.Shape.{Shape}
use Rattle.leg_rules.specs.Metal.Flat.{FlatModel}
use Rattle.leg_rules.specs.Spacing.Violations.{AreShort, AreTooNear, IsSpacingViolation}
use Rattle.leg_rules.specs.Spacing.Violations.IsSpacingViolation.{short, too_near}
use Rattle.leg_wire.specs.Steps.TooCloseRule.{AreClose}
use Rattle.leg_wire.specs.Steps.PairViolations.{DoShare, ShareNoPoint, IsPairViolation}

module _ (library : LibraryModel) where
  -- shapes that are too close and share no point
  AreTooNear-close : (a b : Shape) → AreClose library a b → ShareNoPoint a b → AreTooNear library a b
  AreTooNear-close a b close apart = record {
    comparable = close.comparable;
    apart = apart;
    near = elim close.close [ inl shared ↦ absurd (apart shared) | inr near ↦ near ];
  }

  module _ (flat : FlatModel) (close : List (ℕ × ℕ)) (are : ArePairs (AreClose library) flat.shapes close) where
    -- what is told as a short is one
    IsSpacingViolation-told_short : (v : Fault) → IsPairViolation Short DoShare flat.shapes close v → IsSpacingViolation library flat v
    IsSpacingViolation-told_short v told =
        let pair = All-contains (IsPair (AreClose library) flat.shapes) close told.p are.each told.among in
        let a_is : pair.a ≡ told.a = same_Some pair.a told.a (sym pair.a_at ∙ told.a_at) in
        let b_is : pair.b ≡ told.b = same_Some pair.b told.b (sym pair.b_at ∙ told.b_at) in
        let pair_short : IsPair AreShort flat.shapes (told.p.0, told.p.1) = record {
          a = pair.a;
          b = pair.b;
          a_at = pair.a_at;
          b_at = pair.b_at;
          in_order = pair.in_order;
          holds = record { comparable = pair.holds.comparable; shared = rw (a_is, b_is) told.test };
        } in
        rw told.is (short pair_short)

    -- and so with shapes too near
    IsSpacingViolation-told_near : (v : Fault) → IsPairViolation TooNear ShareNoPoint flat.shapes close v → IsSpacingViolation library flat v
    IsSpacingViolation-told_near v told =
        let pair = All-contains (IsPair (AreClose library) flat.shapes) close told.p are.each told.among in
        let a_is : pair.a ≡ told.a = same_Some pair.a told.a (sym pair.a_at ∙ told.a_at) in
        let b_is : pair.b ≡ told.b = same_Some pair.b told.b (sym pair.b_at ∙ told.b_at) in
        let apart : ShareNoPoint pair.a pair.b = rw (a_is, b_is) told.test in
        let near : IsPair (AreTooNear library) flat.shapes (told.p.0, told.p.1) = record {
          a = pair.a;
          b = pair.b;
          a_at = pair.a_at;
          b_at = pair.b_at;
          in_order = pair.in_order;
          holds = AreTooNear-close pair.a pair.b pair.holds apart;
        } in
        rw told.is (too_near near)

    -- each short is told
    told_short : (i j : ℕ) → IsPair AreShort flat.shapes (i, j) → IsPairViolation Short DoShare flat.shapes close (Short i j)
    told_short i j h =
        let pair : IsPair (AreClose library) flat.shapes (i, j) = record {
          a = h.a;
          b = h.b;
          a_at = h.a_at;
          b_at = h.b_at;
          in_order = h.in_order;
          holds = record { comparable = h.holds.comparable; close = inl h.holds.shared };
        } in
        record { p = (i, j); is = refl; among = are.all (i, j) pair; a = h.a; b = h.b; a_at = h.a_at; b_at = h.b_at; test = h.holds.shared }

    -- and so are shapes too near
    told_near : (i j : ℕ) → IsPair (AreTooNear library) flat.shapes (i, j) → IsPairViolation TooNear ShareNoPoint flat.shapes close (TooNear i j)
    told_near i j h =
        let pair : IsPair (AreClose library) flat.shapes (i, j) = record {
          a = h.a;
          b = h.b;
          a_at = h.a_at;
          b_at = h.b_at;
          in_order = h.in_order;
          holds = record { comparable = h.holds.comparable; close = inr h.holds.near };
        } in
        record { p = (i, j); is = refl; among = are.all (i, j) pair; a = h.a; b = h.b; a_at = h.a_at; b_at = h.b_at; test = h.holds.apart }

    -- shorts come first
    shorts_first : (v w : Fault) → IsPairViolation Short DoShare flat.shapes close v → IsPairViolation TooNear ShareNoPoint flat.shapes close w
        → ComesBefore v w
    shorts_first v w one other =
        rw (one.is, other.is) (record { kind = omega arith; first = λ same. absurd (omega (arith, same)); second = λ same. absurd (omega (arith, same)) })

    -- the shorts and the shapes too near are all that there is
    pub listing_told : (shorts near : List Fault) → IsListOf (IsPairViolation Short DoShare flat.shapes close) shorts
        → IsListOf (IsPairViolation TooNear ShareNoPoint flat.shapes close) near → IsListOf (IsSpacingViolation library flat) (shorts ++ near)
    listing_told shorts near s n = record {
      increasing =
          AllPairs-append_by ComesBefore (IsPairViolation Short DoShare flat.shapes close)
          (IsPairViolation TooNear ShareNoPoint flat.shapes close) shorts_first shorts near
          s.each n.each s.increasing n.increasing;
      each =
          All-append (IsSpacingViolation library flat) shorts near
          (All-weaker (IsPairViolation Short DoShare flat.shapes close) (IsSpacingViolation library flat) IsSpacingViolation-told_short shorts s.each)
          (All-weaker (IsPairViolation TooNear ShareNoPoint flat.shapes close) (IsSpacingViolation library flat) IsSpacingViolation-told_near near n.each);
      all = λ v. found_in v;
    }
      where
        found_in : (v : Fault) → IsSpacingViolation library flat v → Contains (shorts ++ near) v
        found_in v (short {i = i} {j = j} h) = Contains-append_left shorts near (Short i j) (s.all (Short i j) (told_short i j h))
        found_in v (too_near {i = i} {j = j} h) = Contains-append_right shorts near (TooNear i j) (n.all (TooNear i j) (told_near i j h))

-- pairs of items tell items
module _ {Item : Type 0} (H : Item → Item → Type 0) (items : List Item) (found : List (ℕ × ℕ)) (are : ArePairs H items found) where
  pub first_within : All (λ p. p.0 < length items) found
  first_within = All-weaker (IsPair H items) (λ p. p.0 < length items) (λ p pair. slice_get_within items p.0 pair.a pair.a_at) found are.each

  pub second_within : All (λ p. p.1 < length items) found
  second_within = All-weaker (IsPair H items) (λ p. p.1 < length items) (λ p pair. slice_get_within items p.1 pair.b pair.b_at) found are.each
