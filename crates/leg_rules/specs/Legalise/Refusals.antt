-- When the legaliser refuses a design (lefdef's own rules).
use Rattle.std.specs.Prelude.{◌≡◌, ℕ, pos, ◌≤◌, ◌++◌, ◌∷◌, List, ◌*ℤ◌, All, Contains, Some, slice_get}
use Rattle.leg_geom.specs.declared.place.Place.{Place}
use Rattle.leg_lib_records.specs.declared.records.Site.{Site}
use Rattle.leg_lib_records.specs.Measure.{ExtentModel}
use Rattle.leg_design_records.specs.Records.{DesignModel}
use Rattle.leg_design_records.specs.declared.fault.Fault.{Fault}
use Rattle.leg_design_records.specs.Violation.{components_of}
use Rattle.leg_design_records.specs.declared.records.Row.{Row}
use Rattle.leg_rules.specs.Placement.Violations.{IsPlacementViolation, IsLegallyPlaced}
use Rattle.leg_design_records.specs.Movable.{IsMovable}
use Rattle.leg_rules.specs.declared.position.Candidate.{Candidate}
use Rattle.leg_rules.specs.Legalise.Free.{IsFree}
use Rattle.leg_rules.specs.Legalise.Turns.{IsOrderOfTaking}
use Rattle.leg_rules.specs.Legalise.Run.{LegaliseRun}

-- a violation of placement holds, and each component that it names stays: no component that moves can mend it
pub record IsStayingViolation (design : DesignModel) (fault : Fault) : Type 0 where
  pub holds : IsPlacementViolation design fault
  pub staying : All (λ c. ¬ IsMovable design c) (components_of fault)

-- no violation of placement holds that names only components that stay
abbrev pub NoneStaying : DesignModel → Type 0
NoneStaying design = (fault : Fault) → ¬ IsStayingViolation design fault

-- a macro of this size is as high as a site of that size, and as wide as a number of them
pub record FitsSites (site size : ExtentModel) : Type 0 where
  pub high : size.height ≡ site.height
  pub many : ℕ
  pub wide : size.width ≡ pos many *ℤ site.width

-- a macro of this size, of the site of this number, fits some row: it fits the site, and a row has that site
pub record HasRowFor (design : DesignModel) (size : ExtentModel) (number : ℕ) : Type 0 where
  pub site : Site
  pub is_site : slice_get design.library.sites number ≡ Some site
  pub fits : FitsSites site.size size
  pub row : Row
  pub has : Contains design.rows row
  pub same : row.site ≡ number

-- Component c is movable, and fits no row: its macro is not as high as its site, it is not as wide as a number of
-- them, or no row has that site.
pub record IsUnsuited (design : DesignModel) (c : ℕ) : Type 0 where
  pub movable : IsMovable design c
  pub misfit : ¬ HasRowFor design movable.master.size movable.number

-- the one of lowest number
pub record IsLeastUnsuited (design : DesignModel) (c : ℕ) : Type 0 where
  pub unsuited : IsUnsuited design c
  pub least : (d : ℕ) → IsUnsuited design d → c ≤ d

-- each movable component fits some row
abbrev pub AreSuited : DesignModel → Type 0
AreSuited design = (c : ℕ) → ¬ IsUnsuited design c

-- The design isn't legally placed; when the turn of component c came, those before it had taken their places, and none
-- was free for it.
pub record IsStuck (before : DesignModel) (c : ℕ) : Type 0 where
  pub illegal : ¬ IsLegallyPlaced before
  pub done : List ℕ
  pub rest : List ℕ
  pub is_order : IsOrderOfTaking before (done ++ c ∷ rest)
  pub now : DesignModel
  pub run : LegaliseRun before done now
  pub full : (position : Candidate) (place : Place) → ¬ IsFree now done c position place
