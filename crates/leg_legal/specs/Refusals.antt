-- When the legaliser refuses a design (lefdef's own rules).
use Rattle.std.specs.Prelude.{◌≢◌, []}
use Rattle.leg_design_records.specs.Records.{DesignModel}
use Rattle.leg_design_records.specs.Violation.{IsListOf}
use Rattle.leg_rules.specs.Placement.Violations.{IsLegallyPlaced}
use Rattle.leg_legal.specs.declared.fault.LegalFault.{LegalFault}
use Rattle.leg_legal.specs.declared.fault.LegalFault.TheVariants.{FixedIllegal, NoSite, NoRoom, Memory}
use Rattle.leg_rules.specs.Legalise.Refusals.{IsStayingViolation, NoneStaying, IsLeastUnsuited, AreSuited, IsStuck}

-- the first cause of refusal that holds, apart from being out of memory
abbrev pub IsLegaliseRefusal : {A : Type 0} → DesignModel → LegalFault A → Type 0
IsLegaliseRefusal design (FixedIllegal faults) = IsListOf (IsStayingViolation design) faults × (faults ≢ [])
IsLegaliseRefusal design (NoSite c) = (¬ IsLegallyPlaced design) × NoneStaying design × IsLeastUnsuited design c
IsLegaliseRefusal design (NoRoom c) = NoneStaying design × AreSuited design × IsStuck design c
IsLegaliseRefusal design Memory = Unit {0}
