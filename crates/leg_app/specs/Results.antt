-- What the commands answer that make a design of the one that texts denote.
use Rattle.std.specs.Prelude.{ℕ, List}
use Rattle.leg_lib_records.specs.Records.{LibraryModel}
use Rattle.leg_design_records.specs.Records.{DesignModel}
use Rattle.leg_app_input.specs.declared.command.Command.{Command}
use Rattle.leg_app_input.specs.declared.command.Command.TheVariants.{PlaceCheck, Check, Measure, Legalise, Route, Flow, Finish, Print}
use Rattle.leg_grammar.specs.declared.profile.Profile.{Profile}
use Rattle.leg_grammar.specs.Texts.{DenoteDesign}
use Rattle.leg_app.specs.LegaliseResult.{PrintsLegalised, ReportsNotLegalised}
use Rattle.leg_app.specs.RouteResult.{PrintsRouted, ReportsNotRouted}
use Rattle.leg_app.specs.FlowResult.{PrintsFlow, ReportsFlowStopped}
use Rattle.leg_app.specs.FinishResult.{PrintsFinished, ReportsNotFinished}
use Rattle.leg_app.specs.PrintResult.{PrintsDesign}

-- the text is that of what the command makes of the design
abbrev pub IsTextMade : Command → DesignModel → List ℕ → Type 0
IsTextMade PlaceCheck design text = ⊥
IsTextMade Check design text = ⊥
IsTextMade Measure design text = ⊥
IsTextMade Legalise design text = PrintsLegalised design text
IsTextMade Route design text = PrintsRouted design text
IsTextMade Flow design text = PrintsFlow design text
IsTextMade Finish design text = PrintsFinished design text
IsTextMade Print design text = PrintsDesign design text

-- the text states why the command makes nothing of the design
abbrev pub IsReason : Command → DesignModel → List ℕ → Type 0
IsReason PlaceCheck design text = ⊥
IsReason Check design text = ⊥
IsReason Measure design text = ⊥
IsReason Legalise design text = ReportsNotLegalised design text
IsReason Route design text = ReportsNotRouted design text
IsReason Flow design text = ReportsFlowStopped design text
IsReason Finish design text = ReportsNotFinished design text
IsReason Print design text = ⊥

-- The texts denote a design, and what the command makes of it is printed.
pub record PrintsMade (command : Command) (profile : Profile) (lefs : List (List ℕ)) (def text : List ℕ) : Type 0 where
  pub library : LibraryModel
  pub design : DesignModel
  pub say : DenoteDesign profile lefs def library design
  pub made : IsTextMade command design text

-- The texts denote a design, and the reason why the command makes nothing of it is printed.
pub record ReportsUnsolved (command : Command) (profile : Profile) (lefs : List (List ℕ)) (def text : List ℕ) : Type 0 where
  pub library : LibraryModel
  pub design : DesignModel
  pub say : DenoteDesign profile lefs def library design
  pub reason : IsReason command design text
