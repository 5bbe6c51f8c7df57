-- The places that components get when a design is legalised.
use Rattle.std.specs.Prelude.{ℕ, List, All}
use Rattle.leg_design_records.specs.Records.{DesignModel}
use Rattle.leg_rules.specs.Placement.Violations.{IsLegallyPlaced}
use Rattle.leg_legal.specs.declared.fault.LegalFault.{LegalFault}
use Rattle.leg_legal.specs.declared.fault.LegalFault.TheVariants.{FixedIllegal, NoSite, NoRoom, Memory}
use Rattle.leg_legal.specs.declared.taken.Taken.{Taken}
use Rattle.leg_rules.specs.Legalise.Turns.{IsOrderOfTaking}
use Rattle.leg_rules.specs.Legalise.Run.{LegaliseRun, IsLegalised}
use Rattle.leg_rules.specs.Legalise.SameButForPlaces.{IsSameButForPlaces}
use Rattle.leg_legal.specs.Steps.AfterPlaces.{CanTake, placed_all}
use Rattle.leg_legal.specs.Steps.Boxes.{IsStuckAt}

-- all movable components have taken their places
pub record AreRun (design : DesignModel) (taken : List Taken) : Type 0 where
  pub can : All (CanTake design) taken
  pub order : List ℕ
  pub is_order : IsOrderOfTaking design order
  pub run : LegaliseRun design order (placed_all design taken)

-- when the turn of component c came, no position was free for it
pub record HasNoRoom (design : DesignModel) (c : ℕ) : Type 0 where
  pub order : List ℕ
  pub is_order : IsOrderOfTaking design order
  pub stuck : IsStuckAt design order c

-- why not all have
abbrev pub IsRunFault : {A : Type 0} → DesignModel → LegalFault A → Type 0
IsRunFault design (FixedIllegal faults) = ⊥
IsRunFault design (NoSite c) = ⊥
IsRunFault design (NoRoom c) = HasNoRoom design c
IsRunFault design Memory = Unit {0}

-- with these places the design is legalised
pub record AreChosen (design : DesignModel) (taken : List Taken) : Type 0 where
  pub can : All (CanTake design) taken
  pub legal : IsLegallyPlaced (placed_all design taken)
  pub same : IsSameButForPlaces design (placed_all design taken)
  pub legalised : IsLegalised design (placed_all design taken)
