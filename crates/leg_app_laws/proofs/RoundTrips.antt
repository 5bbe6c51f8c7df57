-- What a command prints denotes the design that it printed, under the same LEFs.
use Rattle.std.proofs.Common.{◌≡◌, ℕ, ◌≤◌, List, length, sym, ap, ◌∙◌, subst, ℤ}
use Rattle.leg_lex.specs.declared.limits.TheConstants.{TEXT_LIMIT}
use Rattle.leg_lex.specs.Word.{texts}
use Rattle.leg_lex.specs.Denotes.{Denotes}
use Rattle.leg_lib_records.specs.Records.{LibraryModel}
use Rattle.leg_lib_records.specs.Scale.{IsLibraryAt}
use Rattle.leg_lib_records.specs.Sound.{IsSound}
use Rattle.leg_design_records.specs.Records.{DesignModel}
use Rattle.leg_design_records.specs.WellFormed.{IsWellFormed}
use Rattle.leg_grammar.specs.declared.profile.Profile.{Profile}
use Rattle.leg_grammar.specs.Def.Header.{units_in}
use Rattle.leg_grammar.specs.Def.Form.{design_in}
use Rattle.leg_output.specs.Text.Whole.{design_text}
use Rattle.leg_print_laws.specs.PrintedNames.{StayOne, printed_names}
use Rattle.leg_grammar.specs.Texts.{DenoteDesign}
use Rattle.leg_output.specs.Commands.Legalise.{legalised_text}
use Rattle.leg_output.specs.Commands.Finish.{finished_text}
use Rattle.leg_app.proofs.Denotations.{design_has_library}
use Rattle.leg_app_laws.proofs.Moves.{design_fits, says_with_moves}
use Rattle.leg_app_laws.proofs.Wires.{finished_fits, says_with_wires}

-- The texts denote a design; another one has the same library.
module _ (profile : Profile) (lefs : List (List ℕ)) (def text : List ℕ) (library : LibraryModel) (design after : DesignModel)
    (say : DenoteDesign profile lefs def library design) (same : after.library ≡ design.library) where
  library_is : after.library ≡ library
  library_is = same ∙ (design_has_library profile library (texts say.said.words)).given design say.said.reads

  -- a DEF of it and of its units denotes it under these LEFs
  under_lefs : Denotes units_in text after.library.units → Denotes (design_in profile after.library) text after
      → DenoteDesign profile lefs text after.library after
  under_lefs units said = record {
    under = record {
      raw = say.under.raw;
      units = say.under.units;
      lef = say.under.lef;
      unit = subst (Denotes units_in text) (ap (λ l. l.units) library_is ∙ say.under.scaled.units) units;
      scaled = subst (IsLibraryAt say.under.units say.under.raw) (sym library_is) say.under.scaled;
    };
    said = said;
  }

-- A printed text denotes its design, and the units of its library.
abbrev pub SaysItsDesign : Type 0
SaysItsDesign = (profile : Profile) (design : DesignModel) → IsSound design.library → IsWellFormed design → StayOne (printed_names design)
    → length (design_text design) ≤ TEXT_LIMIT → Denotes (design_in profile design.library) (design_text design) design

abbrev pub SaysItsUnits : Type 0
SaysItsUnits = (design : DesignModel) → IsSound design.library → IsWellFormed design → StayOne (printed_names design)
    → length (design_text design) ≤ TEXT_LIMIT → Denotes units_in (design_text design) design.library.units

module _ (says_design : SaysItsDesign) (says_units : SaysItsUnits) (profile : Profile) (lefs : List (List ℕ)) (def text : List ℕ) (library : LibraryModel)
    (design after : DesignModel) (say : DenoteDesign profile lefs def library design) (same : after.library ≡ design.library)
    (sound : IsSound after.library) (well : IsWellFormed after) (one : StayOne (printed_names after)) where
  -- so under the same LEFs the text of a design denotes it
  pub said_again : text ≡ design_text after → length text ≤ TEXT_LIMIT → DenoteDesign profile lefs text after.library after
  said_again is fits =
      let short = subst (λ t. length t ≤ TEXT_LIMIT) is fits in
      under_lefs profile lefs def text library design after say same
      (subst (λ t. Denotes units_in t after.library.units) (sym is) (says_units after sound well one short))
      (subst (λ t. Denotes (design_in profile after.library) t after) (sym is) (says_design profile after sound well one short))

  -- and with lines of moves it does too
  pub said_with_moves : (distances : List ℤ) (total greatest : ℤ) → text ≡ legalised_text after distances total greatest → length text ≤ TEXT_LIMIT
      → DenoteDesign profile lefs text after.library after
  said_with_moves distances total greatest is fits =
      let long = subst (λ t. length t ≤ TEXT_LIMIT) is fits in
      let short = design_fits after distances total greatest long in
      under_lefs profile lefs def text library design after say same
      (subst (λ t. Denotes units_in t after.library.units) (sym is)
      (says_with_moves units_in after.library.units after distances total greatest well long (says_units after sound well one short)))
      (subst (λ t. Denotes (design_in profile after.library) t after) (sym is)
      (says_with_moves (design_in profile after.library) after after distances total greatest well long (says_design profile after sound well one short)))

  -- and with lines on its added wires
  pub said_with_wires : (long vias : ℕ) → text ≡ finished_text after long vias → length text ≤ TEXT_LIMIT → DenoteDesign profile lefs text after.library after
  said_with_wires long vias is fits =
      let whole = subst (λ t. length t ≤ TEXT_LIMIT) is fits in
      let short = finished_fits after long vias whole in
      under_lefs profile lefs def text library design after say same
      (subst (λ t. Denotes units_in t after.library.units) (sym is)
      (says_with_wires units_in after.library.units after long vias whole (says_units after sound well one short)))
      (subst (λ t. Denotes (design_in profile after.library) t after) (sym is)
      (says_with_wires (design_in profile after.library) after after long vias whole (says_design profile after sound well one short)))
