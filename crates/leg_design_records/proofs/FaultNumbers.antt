-- Violations by the number of their kind and the numbers that they tell.
use Rattle.std.proofs.Common.{◌≡◌, ℕ, ◌<◌, List, [], ◌∷◌, Some, slice_get, refl, sym, ◌∙◌, arith}
use Rattle.std.proofs.lemmas.Option.{same_Some}
use Rattle.leg_design_records.specs.declared.fault.Fault.{Fault}
use Rattle.leg_design_records.specs.declared.fault.Fault.TheVariants.{Unplaced, Outside, OffSite, Overlap, Blocked, Short, TooNear, OpenNet}
use Rattle.leg_design_records.specs.Violation.{kind_number, numbers_of, ComesBefore}

-- a violation of each kind that tells these numbers, in the order of kinds
abbrev kinds : ℕ × ℕ → List Fault
kinds p = Unplaced p.0 ∷ Outside p.0 ∷ OffSite p.0 ∷ Overlap p.0 p.1 ∷ Blocked p.0 ∷ Short p.0 p.1 ∷ TooNear p.0 p.1 ∷ OpenNet p.0 p.1 ∷ []

-- the number of a kind is its place in this list
by_kind : (v : Fault) → slice_get (kinds (numbers_of v)) (kind_number v) ≡ Some v
by_kind (Unplaced c) = refl
by_kind (Outside c) = refl
by_kind (OffSite c) = refl
by_kind (Overlap a b) = refl
by_kind (Blocked c) = refl
by_kind (Short a b) = refl
by_kind (TooNear a b) = refl
by_kind (OpenNet n k) = refl

same_pair : (p q : ℕ × ℕ) → p.0 ≡ q.0 → p.1 ≡ q.1 → p ≡ q
same_pair (a, b) (c, d) first second = cc

-- the kind and the numbers determine a violation
pub same_fault : (v w : Fault) → kind_number v ≡ kind_number w → (numbers_of v).0 ≡ (numbers_of w).0 → (numbers_of v).1 ≡ (numbers_of w).1 → v ≡ w
same_fault v w kind first second =
    let numbers : numbers_of v ≡ numbers_of w = same_pair (numbers_of v) (numbers_of w) first second in
    let alike : slice_get (kinds (numbers_of v)) (kind_number v) ≡ slice_get (kinds (numbers_of w)) (kind_number w) = rw (numbers, kind) refl in
    same_Some v w (sym (by_kind v) ∙ alike ∙ by_kind w)

-- a violation of one component tells no second number
pub no_second_number : (v : Fault) → kind_number v < kind_number (Overlap 0 0) → (numbers_of v).1 ≡ 0
no_second_number (Unplaced c) few = refl
no_second_number (Outside c) few = refl
no_second_number (OffSite c) few = refl
no_second_number other few = absurd (omega (arith, few))

-- a violation of a lower kind comes first
pub lower_kind_first : (v w : Fault) → kind_number v < kind_number w → ComesBefore v w
lower_kind_first v w less = record {
  kind = omega (arith, less);
  first = λ same. absurd (omega (arith, less, same));
  second = λ same. absurd (omega (arith, less, same));
}
