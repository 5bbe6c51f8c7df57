-- What is legal by definition is answered `legal`.
use Rattle.std.proofs.Common.{◌≡◌, ◌≢◌, ℕ, ◌≤◌, List, [], length, Some, None, inl, refl, sym, ap, ◌∙◌, arith}
use Rattle.std.proofs.lemmas.List.Elements.{All-nil}
use Rattle.leg_lex.specs.declared.limits.TheConstants.{TEXT_LIMIT}
use Rattle.leg_lib_records.specs.Records.{LibraryModel}
use Rattle.leg_design_records.specs.Records.{DesignModel}
use Rattle.leg_design_records.specs.declared.fault.Fault.{Fault}
use Rattle.leg_design_records.specs.Violation.{IsListOf}
use Rattle.leg_rules.specs.Placement.Violations.{IsLegallyPlaced}
use Rattle.leg_rules.specs.Violations.{IsViolation}
use Rattle.leg_rules.specs.Legal.{IsLegal}
use Rattle.leg_print_laws.specs.PrintedNames.{StayOne, printed_names}
use Rattle.leg_app_input.specs.declared.command.Command.{Command}
use Rattle.leg_app_input.specs.declared.command.Command.TheVariants.{PlaceCheck, Check, Route, Flow, Finish}
use Rattle.leg_app.specs.declared.status.Status.{Status}
use Rattle.leg_app.specs.declared.status.Status.TheVariants.{Success, Refused, Memory}
use Rattle.leg_grammar.specs.declared.profile.Profile.{Profile}
use Rattle.leg_grammar.specs.Texts.{DenoteDesign}
use Rattle.leg_output.specs.Commands.Check.{legal_text}
use Rattle.leg_app.specs.LegaliseResult.{Legalises, PrintsLegalised}
use Rattle.leg_app.specs.RouteResult.{Routes, PrintsRouted}
use Rattle.leg_app.specs.FlowResult.{PrintsFlow}
use Rattle.leg_app.specs.PrintResult.{PrintsDesign}
use Rattle.leg_app.specs.FinishResult.{Finishes, PrintsFinished}
use Rattle.leg_app.specs.Answer.{IsAnswer}
use Rattle.leg_app_laws.specs.Legal.{AnswersLegal}
use Rattle.leg_app_laws.proofs.PrintedDifferences.{said_under}
use Rattle.leg_app_laws.proofs.RoundTrips.{SaysItsDesign, SaysItsUnits, said_again, said_with_moves, said_with_wires}

-- where nothing holds, the list has nothing
none_listed : (Holds : Fault → Type 0) → ((fault : Fault) → ¬ Holds fault) → IsListOf Holds []
none_listed Holds none = record {
  increasing = λ i j fault before within. absurd (omega (arith, before, within));
  each = All-nil Holds;
  all = λ fault holds. absurd (none fault holds);
}

-- a command that doesn't route has one answer to texts that it judges
abbrev pub HasOneAnswer : Type 0
HasOneAnswer = (command : Command) (profile : Profile) (lefs : List (List ℕ)) (def : List ℕ) (status other : Status) (text words : List ℕ)
    → IsAnswer command profile lefs def status text → IsAnswer command profile lefs def other words
    → command ≢ Route → command ≢ Flow → command ≢ Finish → status ≢ Refused → status ≢ Memory → other ≢ Memory → (status ≡ other) × (text ≡ words)

module _ (one_answer : HasOneAnswer) (profile : Profile) (lefs : List (List ℕ)) (text : List ℕ) where
  no_other : (command : Command) → command ≢ Route → command ≢ Flow → command ≢ Finish → IsAnswer command profile lefs text Success legal_text
      → AnswersLegal command profile lefs text
  no_other command first second third legal = record {
    legal = legal;
    only = λ status answer is not_memory.
        let same = one_answer command profile lefs text Success status legal_text answer legal is first second third (λ e. cc) (λ e. cc) not_memory in
        (sym same.0, sym same.1);
  }

  -- texts that denote a legally placed design
  placed_answered : (design : DesignModel) → DenoteDesign profile lefs text design.library design → IsLegallyPlaced design
      → AnswersLegal PlaceCheck profile lefs text
  placed_answered design say placed =
      no_other PlaceCheck (λ e. cc) (λ e. cc) (λ e. cc)
      (inl (record {
        library = design.library;
        design = design;
        flat = None;
        violations = [];
        say = say;
        shown = tt;
        list = none_listed _ placed;
        is =
            (refl, refl);
      }))

  -- texts that denote a legal design within the limit of shapes
  legal_answered : (design : DesignModel) → DenoteDesign profile lefs text design.library design → IsLegal design → AnswersLegal Check profile lefs text
  legal_answered design say legal =
      no_other Check (λ e. cc) (λ e. cc) (λ e. cc)
      (inl (record {
        library = design.library;
        design = design;
        flat = Some legal.flat;
        violations = [];
        say = say;
        shown = legal.judged;
        list = none_listed (IsViolation design) legal.none;
        is = (refl, refl);
      }))

-- routing, legalising and finishing keep the library
routed_library : (before after : DesignModel) → Routes before after → after.library ≡ before.library
routed_library before after routes = ap (λ d. d.library) routes.same.rest

legalised_library : (before after : DesignModel) → Legalises before after → after.library ≡ before.library
legalised_library before after legalises = ap (λ d. d.library) legalises.same.rest

finished_library : (before after : DesignModel) → Finishes before after → after.library ≡ before.library
finished_library before after finishes = ap (λ d. d.library) finishes.same.rest

-- What `route`, `legalise`, `flow` and `finish` print.
module _ (says_design : SaysItsDesign) (says_units : SaysItsUnits) (profile : Profile) (lefs : List (List ℕ)) (def text : List ℕ)
    (library : LibraryModel) (design : DesignModel) (say : DenoteDesign profile lefs def library design) where
  pub routed_said : (printed : PrintsRouted design text) → StayOne (printed_names printed.routed) → length text ≤ TEXT_LIMIT
      → DenoteDesign profile lefs text printed.routed.library printed.routed
  routed_said printed one fits =
      let routes = printed.routes in
      said_again says_design says_units profile lefs def text library design printed.routed say
      (routed_library design printed.routed routes) routes.sound routes.proper one printed.is fits

  pub legalised_said : (printed : PrintsLegalised design text) → StayOne (printed_names printed.legalised) → length text ≤ TEXT_LIMIT
      → DenoteDesign profile lefs text printed.legalised.library printed.legalised
  legalised_said printed one fits =
      let legalises = printed.legalises in
      said_with_moves says_design says_units profile lefs def text library design printed.legalised say
      (legalised_library design printed.legalised legalises) legalises.sound legalises.proper one
      printed.distances printed.total printed.greatest printed.is fits

  pub flow_said : (printed : PrintsFlow design text) → StayOne (printed_names printed.routed) → length text ≤ TEXT_LIMIT
      → DenoteDesign profile lefs text printed.routed.library printed.routed
  flow_said printed one fits =
      let routes = printed.routes in
      let same = routed_library printed.legalised printed.routed routes ∙ legalised_library design printed.legalised printed.legalises in
      said_with_moves says_design says_units profile lefs def text library design printed.routed say same routes.sound routes.proper one
      printed.distances printed.total printed.greatest printed.is fits

  pub finished_said : (printed : PrintsFinished design text) → StayOne (printed_names printed.finished) → length text ≤ TEXT_LIMIT
      → DenoteDesign profile lefs text printed.finished.library printed.finished
  finished_said printed one fits =
      let finishes = printed.finishes in
      said_with_wires says_design says_units profile lefs def text library design printed.finished say
      (finished_library design printed.finished finishes) finishes.sound finishes.proper one
      printed.length printed.vias printed.is fits

  pub design_said : PrintsDesign design text → StayOne (printed_names design) → length text ≤ TEXT_LIMIT → DenoteDesign profile lefs text library design
  design_said printed one fits =
      said_under profile lefs def library design say text design refl
      (said_again says_design says_units profile lefs def text library design design say refl printed.sound printed.proper one printed.is fits)

  module _ (one_answer : HasOneAnswer) where
    pub routed_legal : (printed : PrintsRouted design text) → StayOne (printed_names printed.routed) → length text ≤ TEXT_LIMIT
        → AnswersLegal Check profile lefs text
    routed_legal printed one fits =
        let routes = printed.routes in
        legal_answered one_answer profile lefs text printed.routed (routed_said printed one fits) routes.legal

    pub legalised_placed : (printed : PrintsLegalised design text) → StayOne (printed_names printed.legalised) → length text ≤ TEXT_LIMIT
        → AnswersLegal PlaceCheck profile lefs text
    legalised_placed printed one fits =
        placed_answered one_answer profile lefs text printed.legalised (legalised_said printed one fits) printed.legalises.legal

    pub flow_legal : (printed : PrintsFlow design text) → StayOne (printed_names printed.routed) → length text ≤ TEXT_LIMIT
        → AnswersLegal Check profile lefs text
    flow_legal printed one fits =
        let routes = printed.routes in
        legal_answered one_answer profile lefs text printed.routed (flow_said printed one fits) routes.legal

    pub finished_legal : (printed : PrintsFinished design text) → StayOne (printed_names printed.finished) → length text ≤ TEXT_LIMIT
        → AnswersLegal Check profile lefs text
    finished_legal printed one fits =
        legal_answered one_answer profile lefs text printed.finished (finished_said printed one fits) printed.finishes.legal
