-- Violations of a deck's rules in order (lefdef's own rules): by kind, and within a kind by number or by pair of numbers.
use Rattle.std.specs.Prelude.{◌≡◌, ℕ, ◌≤◌, ◌<◌, List, All, AllPairs, Contains}
use Rattle.leg_drc.specs.declared.fault.DrcFault.{DrcFault}
use Rattle.leg_drc.specs.declared.fault.DrcFault.TheVariants.{Supply, MinWidth, Table, CutNear, OffGrid, OutDie}

-- the place of a violation's kind among the kinds
abbrev pub kind_number : DrcFault → ℕ
kind_number (Supply n k) = 0
kind_number (MinWidth i) = 1
kind_number (Table i j) = 2
kind_number (CutNear i j) = 3
kind_number (OffGrid i) = 4
kind_number (OutDie i) = 5

-- the numbers that it names; where there is only one, the second is 0
abbrev pub numbers_of : DrcFault → ℕ × ℕ
numbers_of (Supply n k) = (n, k)
numbers_of (MinWidth i) = (i, 0)
numbers_of (Table i j) = (i, j)
numbers_of (CutNear i j) = (i, j)
numbers_of (OffGrid i) = (i, 0)
numbers_of (OutDie i) = (i, 0)

-- the first violation comes before the second in a list
pub record ComesBefore (v w : DrcFault) : Type 0 where
  pub kind : kind_number v ≤ kind_number w
  pub first : kind_number v ≡ kind_number w → (numbers_of v).0 ≤ (numbers_of w).0
  pub second : kind_number v ≡ kind_number w → (numbers_of v).0 ≡ (numbers_of w).0 → (numbers_of v).1 < (numbers_of w).1

-- The list of the violations for which this holds: all of them, no other, each once, in order.
pub record IsDrcListOf (Holds : DrcFault → Type 0) (faults : List DrcFault) : Type 0 where
  pub increasing : AllPairs ComesBefore faults
  pub each : All Holds faults
  pub all : (fault : DrcFault) → Holds fault → Contains faults fault
