-- Violations that name only some of the components of a design (lefdef's own rules). These are marked: there is a flag for
-- each component, by number.
use Rattle.std.specs.Prelude.{◌≡◌, ℕ, Bool, true, List, All, Some, slice_get}
use Rattle.leg_design_records.specs.Records.{DesignModel}
use Rattle.leg_design_records.specs.declared.fault.Fault.{Fault}
use Rattle.leg_design_records.specs.Violation.{components_of}
use Rattle.leg_rules.specs.Placement.Violations.{IsPlacementViolation}

-- component c is marked
abbrev pub IsMarked : List Bool → ℕ → Type 0
IsMarked marks c = slice_get marks c ≡ Some true

-- a violation of placement holds, and all components that it names are marked
pub record IsViolationAmong (design : DesignModel) (marks : List Bool) (fault : Fault) : Type 0 where
  pub holds : IsPlacementViolation design fault
  pub marked : All (IsMarked marks) (components_of fault)
