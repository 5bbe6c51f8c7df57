-- Everything that is not legal about a design (lefdef's own rules): violations of placement, which are of where components are,
-- and violations of metal, which are of two shapes or of a piece of a net.
use Rattle.std.specs.Prelude.{List, ◌⊎◌}
use Rattle.leg_design_records.specs.Records.{DesignModel}
use Rattle.leg_design_records.specs.declared.fault.Fault.{Fault}
use Rattle.leg_design_records.specs.Violation.{IsListOf}
use Rattle.leg_rules.specs.Metal.Flat.{FlatModel, IsFlatOf, IsJudgedBy}
use Rattle.leg_rules.specs.Placement.Violations.{IsPlacementViolation}
use Rattle.leg_rules.specs.Spacing.Violations.{IsSpacingViolation}
use Rattle.leg_rules.specs.Joins.Violations.{IsOpenViolation}

-- in this flat two shapes share a point or are too near one another, or a piece of a net of the design is open
abbrev pub IsInFlat : DesignModel → FlatModel → Fault → Type 0
IsInFlat design flat fault = IsSpacingViolation design.library flat fault ⊎ IsOpenViolation design flat fault

-- a violation of any kind holds, of the design or in this flat of it
abbrev pub IsViolationIn : DesignModel → FlatModel → Fault → Type 0
IsViolationIn design flat fault = IsPlacementViolation design fault ⊎ IsInFlat design flat fault

-- a violation of metal: it is in a flat of the design, which has exactly the points of its metal
pub record IsOfMetal (design : DesignModel) (fault : Fault) : Type 0 where
  pub flat : FlatModel
  pub is_flat : IsFlatOf design flat
  pub holds : IsInFlat design flat fault

-- A violation holds: it is one of placement, or of metal.
abbrev pub IsViolation : DesignModel → Fault → Type 0
IsViolation design fault = IsPlacementViolation design fault ⊎ IsOfMetal design fault

-- a violation of any kind but Open, in the design or in this flat of it
abbrev pub IsOtherThanOpen : DesignModel → FlatModel → Fault → Type 0
IsOtherThanOpen design flat fault = IsPlacementViolation design fault ⊎ IsSpacingViolation design.library flat fault

-- These are the violations of a design: all that hold, each once, in order. Its metal is judged too.
pub record AreAllViolations (design : DesignModel) (violations : List Fault) : Type 0 where
  pub flat : FlatModel
  pub judged : IsJudgedBy design flat
  pub list : IsListOf (IsViolation design) violations
