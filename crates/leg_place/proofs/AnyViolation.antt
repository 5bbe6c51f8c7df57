-- Whether any violation holds of where components stand.
use Rattle.std.proofs.Common.{◌≡◌, ℕ, Bool, true, false, not, IsTrue, ◌+◌, ◌↔◌, length, refl, subst, inl, inr, arith}
use Rattle.std.proofs.lemmas.Bool.{cases_lt, false≢true}
use Rattle.leg_design_records.specs.Records.{DesignModel}
use Rattle.leg_design_records.specs.declared.fault.Fault.{Fault}
use Rattle.leg_design_records.specs.declared.fault.Fault.TheVariants.{Overlap}
use Rattle.leg_design_records.specs.Violation.{numbers_of}
use Rattle.leg_rules.specs.Placement.Violations.{IsPlacementViolation}
use Rattle.leg_rules.specs.Placement.Violations.IsPlacementViolation.{overlap}
use Rattle.leg_place.specs.Steps.ListPrefix.{IsMisplaced, IsOneMisplaced, DoSomeOverlap}
use Rattle.leg_place.specs.Steps.ComponentFault.{fault_of}
use Rattle.leg_place.proofs.PlaceFaults.{component_below, overlap_there}
use Rattle.leg_place.proofs.ComponentFaults.{component_or_overlap, is_of_component, is_overlap}

module _ (design : DesignModel) where
  pub none_at_first : IsOneMisplaced design 0 → ⊥
  none_at_first m = omega (arith, m.below)

  -- one more component isn't misplaced
  pub none_so_far : (i : ℕ) → (IsOneMisplaced design i → ⊥) → (IsMisplaced design i → ⊥) → IsOneMisplaced design (i + 1) → ⊥
  none_so_far i before here m =
      elim (cases_lt m.c i) [
        | inl earlier ↦ before (record { c = m.c; below = earlier; misplaced = m.misplaced })
        | inr late ↦ let is : m.c ≡ i = omega (arith, m.below, late) in here (rw is at m.misplaced)
      ]

  -- a misplaced component is a violation
  pub misplaced_holds : {n : ℕ} → IsOneMisplaced design n → ((fault : Fault) → IsPlacementViolation design fault → ⊥) → ⊥
  misplaced_holds m none = none (fault_of m.misplaced.kind m.c) m.misplaced.holds

  -- where no component is misplaced and no two overlap, none holds
  none_holds : (IsOneMisplaced design (length design.components) → ⊥) → (DoSomeOverlap design → ⊥)
      → (fault : Fault) → IsPlacementViolation design fault → ⊥
  none_holds placed apart fault holds =
      let first = (numbers_of fault).0 in
      let second = (numbers_of fault).1 in
      elim (component_or_overlap design fault holds) [
        | inl (kind, same) ↦
            let is : fault ≡ fault_of kind first = is_of_component kind fault same in
            placed (record {
              c = first;
              below = component_below design fault holds;
              misplaced = record { kind = kind; holds = subst (IsPlacementViolation design) is holds };
            })
        | inr same ↦
            let is : fault ≡ Overlap first second = is_overlap fault same in
            apart (record { a = first; b = second; overlap = overlap_there design first second (subst (IsPlacementViolation design) is holds) })
      ]

  pub none_by_overlap : (IsOneMisplaced design (length design.components) → ⊥) → (some : Bool) → IsTrue some ↔ DoSomeOverlap design
      → IsTrue (not some) ↔ ((fault : Fault) → IsPlacementViolation design fault → ⊥)
  none_by_overlap placed true test = (
    λ t. absurd (false≢true t),
    λ none. absurd (let some = test.0 refl in none (Overlap some.a some.b) (overlap some.overlap)),
  )
  none_by_overlap placed false test = (λ t. none_holds placed (λ some. false≢true (test.1 some)), λ none. refl)
