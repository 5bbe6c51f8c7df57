-- What may become of a design (lefdef's own rules).
use Rattle.std.specs.Prelude.{◌≢◌, ◌⊎◌}
use Rattle.leg_design_records.specs.Records.{DesignModel}
use Rattle.leg_rules.specs.Placement.Violations.{IsLegallyPlaced}
use Rattle.leg_legal.specs.declared.fault.LegalFault.{LegalFault}
use Rattle.leg_legal.specs.declared.fault.LegalFault.TheVariants.{Memory}
use Rattle.leg_rules.specs.Legalise.Run.{IsLegalised}
use Rattle.leg_legal.specs.Refusals.{IsLegaliseRefusal}

-- it is legalised, and legally placed then
pub record HasLegalised (design : DesignModel) : Type 0 where
  pub after : DesignModel
  pub legal : IsLegallyPlaced after
  pub legalised : IsLegalised design after

-- or it is refused, for another cause than being out of memory
pub record HasRefusal (A : Type 0) (design : DesignModel) : Type 0 where
  pub fault : LegalFault A
  pub no_memory : fault ≢ Memory
  pub refusal : IsLegaliseRefusal design fault

-- one of both
abbrev pub HasOutcome : Type 0 → DesignModel → Type 0
HasOutcome A design = HasLegalised design ⊎ HasRefusal A design
