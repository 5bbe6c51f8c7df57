-- The violations that are asked of one component by itself, and those that are not.
use Rattle.std.proofs.Common.{◌≡◌, ◌≢◌, ◌↔◌, ℕ, Bool, List, [], ◌∷◌, All, ◌⊎◌, inl, inr, refl, arith}
use Rattle.std.proofs.lemmas.Bool.{cases_eq}
use Rattle.std.proofs.lemmas.List.Elements.{All-head, All-cons, All-nil}
use Rattle.leg_design_records.specs.Records.{DesignModel}
use Rattle.leg_design_records.specs.declared.fault.Fault.{Fault}
use Rattle.leg_design_records.specs.declared.fault.Fault.TheVariants as faults
use Rattle.leg_design_records.specs.Violation.{kind_number, numbers_of, components_of}
use Rattle.leg_design_records.proofs.FaultNumbers.{same_fault, no_second_number}
use Rattle.leg_place.specs.declared.component_fault.ComponentFault.{ComponentFault}
use Rattle.leg_place.specs.declared.component_fault.ComponentFault.TheVariants.{Unplaced, Outside, OffSite, Blocked}
use Rattle.leg_rules.specs.Placement.Violations.{IsPlacementViolation}
use Rattle.leg_rules.specs.Placement.Violations.IsPlacementViolation.{unplaced, outside, off_site, overlap, blocked}
use Rattle.leg_place.specs.Among.{IsMarked}
use Rattle.leg_place.specs.Steps.ComponentFault.{fault_of}

-- a kind that is asked of one component, as proofs of other crates name it
abbrev pub ComponentKind : Type 0
ComponentKind = ComponentFault

-- the numbers of these kinds, and of the kind of overlaps
abbrev pub number_of_kind : ComponentFault → ℕ
number_of_kind kind = kind_number (fault_of kind 0)

abbrev pub overlap_kind : ℕ
overlap_kind = kind_number (faults.Overlap 0 0)

-- the violation of a component is of the kind, and names the component
pub of_component : (kind : ComponentFault) (c : ℕ) → (kind_number (fault_of kind c) ≡ number_of_kind kind) × ((numbers_of (fault_of kind c)).0 ≡ c)
of_component Unplaced c = (refl, refl)
of_component Outside c = (refl, refl)
of_component OffSite c = (refl, refl)
of_component Blocked c = (refl, refl)

-- a violation of a component in a placement blockage names no second number
blocked_alone : (v : Fault) → kind_number v ≡ number_of_kind Blocked → (numbers_of v).1 ≡ 0
blocked_alone (faults.Blocked c) same = refl
blocked_alone other same = absurd (omega (arith, same))

-- each violation of the kind is that of the component that it names
pub is_of_component : (kind : ComponentFault) (v : Fault) → kind_number v ≡ number_of_kind kind → v ≡ fault_of kind (numbers_of v).0
is_of_component Unplaced v same = same_fault v (faults.Unplaced (numbers_of v).0) same refl (no_second_number v (omega (arith, same)))
is_of_component Outside v same = same_fault v (faults.Outside (numbers_of v).0) same refl (no_second_number v (omega (arith, same)))
is_of_component OffSite v same = same_fault v (faults.OffSite (numbers_of v).0) same refl (no_second_number v (omega (arith, same)))
is_of_component Blocked v same = same_fault v (faults.Blocked (numbers_of v).0) same refl (blocked_alone v same)

-- and an overlap that of its two
pub is_overlap : (v : Fault) → kind_number v ≡ overlap_kind → v ≡ faults.Overlap (numbers_of v).0 (numbers_of v).1
is_overlap v same = same_fault v (faults.Overlap (numbers_of v).0 (numbers_of v).1) same refl refl

-- the violation of a component names this one alone
names_one : (kind : ComponentFault) (c : ℕ) → components_of (fault_of kind c) ≡ c ∷ []
names_one Unplaced c = refl
names_one Outside c = refl
names_one OffSite c = refl
names_one Blocked c = refl

-- so the components that it names are marked just where this one is
pub names_marked : (kind : ComponentFault) (marks : List Bool) (c : ℕ) → All (IsMarked marks) (components_of (fault_of kind c)) ↔ IsMarked marks c
names_marked kind marks c = rw (names_one kind c) (All-head (IsMarked marks) c [], λ marked. All-cons (IsMarked marks) c [] marked (All-nil (IsMarked marks)))

-- a violation of placement is asked of one component, or is an overlap
pub component_or_overlap : (design : DesignModel) (v : Fault) → IsPlacementViolation design v
    → ((kind : ComponentFault) × (kind_number v ≡ number_of_kind kind)) ⊎ (kind_number v ≡ overlap_kind)
component_or_overlap design v (unplaced h) = inl (Unplaced, refl)
component_or_overlap design v (outside h) = inl (Outside, refl)
component_or_overlap design v (off_site h) = inl (OffSite, refl)
component_or_overlap design v (overlap h) = inr refl
component_or_overlap design v (blocked h) = inl (Blocked, refl)

-- a number is that of such a kind, or of none of them
pub kind_or_none : (number : ℕ) → ((kind : ComponentFault) × (number ≡ number_of_kind kind)) ⊎ ((kind : ComponentFault) → number ≢ number_of_kind kind)
kind_or_none number =
    elim (cases_eq number (number_of_kind Unplaced)) [
      | inl is ↦ inl (Unplaced, is)
      | inr not_unplaced ↦ elim (cases_eq number (number_of_kind Outside)) [
        | inl is ↦ inl (Outside, is)
        | inr not_outside ↦ elim (cases_eq number (number_of_kind OffSite)) [
          | inl is ↦ inl (OffSite, is)
          | inr not_off_site ↦ elim (cases_eq number (number_of_kind Blocked)) [
            | inl is ↦ inl (Blocked, is)
            | inr not_blocked ↦ inr (none_of not_unplaced not_outside not_off_site not_blocked)
          ]
        ]
      ]
    ] where
      none_of : number ≢ number_of_kind Unplaced → number ≢ number_of_kind Outside → number ≢ number_of_kind OffSite
          → number ≢ number_of_kind Blocked → (kind : ComponentFault) → number ≢ number_of_kind kind
      none_of not_unplaced not_outside not_off_site not_blocked Unplaced = not_unplaced
      none_of not_unplaced not_outside not_off_site not_blocked Outside = not_outside
      none_of not_unplaced not_outside not_off_site not_blocked OffSite = not_off_site
      none_of not_unplaced not_outside not_off_site not_blocked Blocked = not_blocked
