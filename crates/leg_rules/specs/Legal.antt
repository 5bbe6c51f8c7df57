-- Designs of which nothing is wrong (lefdef's own rules).
use Rattle.leg_design_records.specs.Records.{DesignModel}
use Rattle.leg_design_records.specs.declared.fault.Fault.{Fault}
use Rattle.leg_rules.specs.Metal.Flat.{FlatModel, IsJudgedBy}
use Rattle.leg_rules.specs.Violations.{IsViolation, IsOtherThanOpen}

-- A design is legal: its metal is judged, by its flat, which is within the limit of shapes, and no violation holds, be it of
-- placement, of two shapes of its metal or of a piece of a net.
pub record IsLegal (design : DesignModel) : Type 0 where
  pub flat : FlatModel
  pub judged : IsJudgedBy design flat
  pub none : (fault : Fault) → ¬ IsViolation design fault

-- its metal keeps the limit of shapes, and no violation of any kind but Open holds in this flat of it
pub record IsCleanIn (design : DesignModel) (flat : FlatModel) : Type 0 where
  pub judged : IsJudgedBy design flat
  pub none : (fault : Fault) → ¬ IsOtherThanOpen design flat fault
