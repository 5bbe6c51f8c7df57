-- The violations of the design that texts denote.
use Rattle.std.specs.Prelude.{ℕ, List}
use Rattle.leg_lib_records.specs.Records.{LibraryModel}
use Rattle.leg_design_records.specs.Records.{DesignModel}
use Rattle.leg_design_records.specs.declared.fault.Fault.{Fault}
use Rattle.leg_rules.specs.Violations.{AreAllViolations}
use Rattle.leg_grammar.specs.declared.profile.Profile.{Profile}
use Rattle.leg_grammar.specs.Texts.{DenoteDesign}

-- The texts denote a design, and these are its violations.
pub record AreViolationsOf (profile : Profile) (lefs : List (List ℕ)) (def : List ℕ) (violations : List Fault) : Type 0 where
  pub library : LibraryModel
  pub design : DesignModel
  pub say : DenoteDesign profile lefs def library design
  pub all : AreAllViolations design violations
