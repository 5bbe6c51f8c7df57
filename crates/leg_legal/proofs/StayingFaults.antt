-- The violations that name only components that stay, by marks.
use Rattle.std.proofs.Common.{◌≡◌, ◌↔◌, ℕ, ◌+◌, Bool, true, false, not, IsTrue, List, [], ◌∷◌, ◌++◌, length, get_or, Some, slice_get, All, refl, sym, ap, ◌∙◌, inl, inr, arith}
use Rattle.std.proofs.lemmas.Bool.{cases_lt, false≢true}
use Rattle.std.proofs.lemmas.List.{length_push}
use Rattle.std.proofs.lemmas.List.Elements.{All-weaker}
use Rattle.std.proofs.lemmas.Option.{same_Some}
use Rattle.leg_lemmas.proofs.Places.{in_first, get_last}
use Rattle.leg_design_records.specs.Records.{DesignModel}
use Rattle.leg_design_records.specs.declared.fault.Fault.{Fault}
use Rattle.leg_design_records.specs.Violation.{components_of, IsListOf}
use Rattle.leg_rules.specs.Placement.Violations.{IsPlacementViolation}
use Rattle.leg_place.specs.Among.{IsMarked, IsViolationAmong}
use Rattle.leg_place.proofs.PlaceFaults.{components_below}
use Rattle.leg_design_records.specs.Movable.{IsMovable}
use Rattle.leg_rules.specs.Legalise.Refusals.{IsStayingViolation}
use Rattle.leg_legal.specs.Steps.Marks.{AreMarksBelow}

-- a mark of a component that isn't movable
mark_of : (b : Bool) {Moves : Type 0} → IsTrue b ↔ Moves → (not b ≡ true) ↔ (Moves → ⊥)
mark_of true test = (λ t. absurd (false≢true t), λ stays. absurd (stays (test.0 refl)))
mark_of false test = (λ t m. false≢true (test.1 m), λ stays. refl)

-- the mark at the end
told_at_end : (marks : List Bool) (m : Bool) (i : ℕ) {Stays : Type 0} → length marks ≡ i → (m ≡ true) ↔ Stays
    → (slice_get (marks ++ m ∷ []) i ≡ Some true) ↔ Stays
told_at_end marks m i count test =
    let last : slice_get (marks ++ m ∷ []) i ≡ Some m = rw (← count) (get_last marks m) in (
      λ t. test.0 (same_Some m true (sym last ∙ t)),
      λ stays. last ∙ ap Some (test.1 stays),
    )

module _ (design : DesignModel) where
  pub marks_none : (marks : List Bool) → marks ≡ [] → AreMarksBelow design 0 marks
  marks_none marks is = rw is (record { count = refl; each = λ c below. absurd (omega (arith, below)) })

  -- one more mark
  pub marks_more : (i : ℕ) (marks : List Bool) (b : Bool) → IsTrue b ↔ IsMovable design i → AreMarksBelow design i marks
      → AreMarksBelow design (i + 1) (marks ++ not b ∷ [])
  marks_more i marks b test are = record {
    count = length_push marks (not b) ∙ (let n = are.count in omega (arith, n));
    each = λ c below. elim (cases_lt c i) [
      | inl earlier ↦
          let front : slice_get (marks ++ not b ∷ []) c ≡ slice_get marks c =
          in_first marks (not b ∷ []) c (let n = are.count in omega (arith, n, earlier)) in
          rw front (are.each c earlier)
      | inr late ↦
          let here : c ≡ i = omega (arith, below, late) in
          rw here (told_at_end marks (not b) i are.count (mark_of b test))
    ];
  }

  -- where the marks say which components stay, a violation names marked ones alone just where it names only such
  module _ (marks : List Bool) (are : AreMarksBelow design (length design.components) marks) where
    staying_of : (v : Fault) → IsPlacementViolation design v → All (IsMarked marks) (components_of v) → All (λ c. IsMovable design c → ⊥) (components_of v)
    staying_of v h marked k d within = (are.each (get_or (components_of v) k d) (components_below design v h k d within)).0 (marked k d within)

    marked_of : (v : Fault) → IsPlacementViolation design v → All (λ c. IsMovable design c → ⊥) (components_of v) → All (IsMarked marks) (components_of v)
    marked_of v h stays k d within = (are.each (get_or (components_of v) k d) (components_below design v h k d within)).1 (stays k d within)

    -- so the list of the ones is that of the others
    pub staying_list : (faults : List Fault) → IsListOf (IsViolationAmong design marks) faults → IsListOf (IsStayingViolation design) faults
    staying_list faults list = record {
      increasing = list.increasing;
      each =
          All-weaker (IsViolationAmong design marks) (IsStayingViolation design)
          (λ v held. record { holds = held.holds; staying = staying_of v held.holds held.marked }) faults list.each;
      all = λ v held. list.all v (record { holds = held.holds; marked = marked_of v held.holds held.staying });
    }
