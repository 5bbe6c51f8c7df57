-- Pairs of shapes listed as violations of one kind.
use Rattle.std.specs.Prelude.{◌≡◌, ℕ, List, Some, Contains, slice_get}
use Rattle.leg_geom.specs.Plane.{SharePoint}
use Rattle.leg_design_records.specs.declared.fault.Fault.{Fault}
use Rattle.leg_design_records.specs.declared.fault.Fault.TheVariants as faults
use Rattle.leg_rules.specs.declared.shape.Shape.{Shape}
use Rattle.leg_wire.specs.declared.pair_kind.PairKind.{PairKind}
use Rattle.leg_wire.specs.declared.pair_kind.PairKind.TheVariants.{Short, TooNear}

abbrev pub DoShare : Shape → Shape → Type 0
DoShare a b = SharePoint a.rect b.rect

abbrev pub ShareNoPoint : Shape → Shape → Type 0
ShareNoPoint a b = ¬ SharePoint a.rect b.rect

-- two shapes that are too close are of this kind
abbrev pub IsOfKind : PairKind → Shape → Shape → Type 0
IsOfKind Short = DoShare
IsOfKind TooNear = ShareNoPoint

-- the violation of this kind of the shapes of these numbers
abbrev pub fault_of : PairKind → ℕ → ℕ → Fault
fault_of Short = faults.Short
fault_of TooNear = faults.TooNear

-- the violation names one of the pairs, whose shapes pass the test
pub record IsPairViolation (fault_of : ℕ → ℕ → Fault) (Test : Shape → Shape → Type 0) (shapes : List Shape) (pairs : List (ℕ × ℕ))
    (fault : Fault) : Type 0 where
  pub p : ℕ × ℕ
  pub is : fault ≡ fault_of p.0 p.1
  pub among : Contains pairs p
  pub a : Shape
  pub b : Shape
  pub a_at : slice_get shapes p.0 ≡ Some a
  pub b_at : slice_get shapes p.1 ≡ Some b
  pub test : Test a b

-- the violation is of this kind, and names one of the pairs that are
abbrev pub IsPairViolationOf : PairKind → List Shape → List (ℕ × ℕ) → Fault → Type 0
IsPairViolationOf kind = IsPairViolation (fault_of kind) (IsOfKind kind)
