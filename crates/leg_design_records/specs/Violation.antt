-- Violations in order (lefdef's own rules): by kind, and within a kind by number or by pair of numbers.
use Rattle.std.specs.Prelude.{◌≡◌, ℕ, ◌≤◌, ◌<◌, List, [], ◌∷◌, All, AllPairs, Contains}
use Rattle.leg_design_records.specs.declared.fault.Fault.{Fault}
use Rattle.leg_design_records.specs.declared.fault.Fault.TheVariants.{Unplaced, Outside, OffSite, Overlap, Blocked, Short, TooNear, OpenNet}

-- the place of a violation's kind among the kinds
abbrev pub kind_number : Fault → ℕ
kind_number (Unplaced c) = 0
kind_number (Outside c) = 1
kind_number (OffSite c) = 2
kind_number (Overlap a b) = 3
kind_number (Blocked c) = 4
kind_number (Short a b) = 5
kind_number (TooNear a b) = 6
kind_number (OpenNet n k) = 7

-- the numbers that it names; where there is only one, the second is 0
abbrev pub numbers_of : Fault → ℕ × ℕ
numbers_of (Unplaced c) = (c, 0)
numbers_of (Outside c) = (c, 0)
numbers_of (OffSite c) = (c, 0)
numbers_of (Overlap a b) = (a, b)
numbers_of (Blocked c) = (c, 0)
numbers_of (Short a b) = (a, b)
numbers_of (TooNear a b) = (a, b)
numbers_of (OpenNet n k) = (n, k)

-- the components that it names by their numbers; a violation of metal names shapes, or a net and its pieces, and no component
abbrev pub components_of : Fault → List ℕ
components_of (Unplaced c) = c ∷ []
components_of (Outside c) = c ∷ []
components_of (OffSite c) = c ∷ []
components_of (Overlap a b) = a ∷ b ∷ []
components_of (Blocked c) = c ∷ []
components_of (Short a b) = []
components_of (TooNear a b) = []
components_of (OpenNet n k) = []

-- the first violation comes before the second in a list
pub record ComesBefore (v w : Fault) : Type 0 where
  pub kind : kind_number v ≤ kind_number w
  pub first : kind_number v ≡ kind_number w → (numbers_of v).0 ≤ (numbers_of w).0
  pub second : kind_number v ≡ kind_number w → (numbers_of v).0 ≡ (numbers_of w).0 → (numbers_of v).1 < (numbers_of w).1

-- The list of the violations for which this holds: all of them, no other, each once, in order.
pub record IsListOf (Holds : Fault → Type 0) (faults : List Fault) : Type 0 where
  pub increasing : AllPairs ComesBefore faults
  pub each : All Holds faults
  pub all : (fault : Fault) → Holds fault → Contains faults fault
