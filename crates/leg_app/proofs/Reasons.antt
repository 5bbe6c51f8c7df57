-- Reasons of answers: from designs to the texts that say them, and to streams.
use Rattle.std.proofs.Common.{◌≡◌, ℕ, List, Option, None, Some, sym, subst}
use Rattle.leg_app_input.specs.declared.command.Command.{Command}
use Rattle.leg_lib_records.specs.Records.{LibraryModel}
use Rattle.leg_design_records.specs.Records.{DesignModel}
use Rattle.leg_design_records.specs.declared.fault.Fault.{Fault}
use Rattle.leg_rules.specs.Metal.Flat.{FlatModel}
use Rattle.leg_app_reason.specs.declared.reason.Reason.{Reason}
use Rattle.leg_app_reason.specs.declared.reason.Reason.TheVariants.{Read, NoLibrary, Scale, TooMany, FixedIllegal, NoSite, NoRoom, NotClean, GridTooLarge, Unroutable, Unreachable, Unfinished}
use Rattle.leg_app.specs.declared.status.Status.{Status}
use Rattle.leg_app.specs.declared.status.Status.TheVariants.{Success, Violations, Refused, Unsolved, Memory}
use Rattle.leg_grammar.specs.declared.profile.Profile.{Profile}
use Rattle.leg_grammar.specs.Texts.{DenoteDesign}
use Rattle.leg_app.specs.Answer.{IsListing}
use Rattle.leg_app.specs.Reason.{IsSoOfDesign, IsSoOfTexts, Explains}

module _ {A : Type 0} where
  -- what is so of a design is so of the texts that say it
  holds_of_texts : (command : Command) (profile : Profile) (lefs : List (List ℕ)) (def : List ℕ) (library : LibraryModel) (design : DesignModel)
      (reason : Reason A)
      → DenoteDesign profile lefs def library design → IsSoOfDesign command design reason → IsSoOfTexts command profile lefs def reason
  holds_of_texts command profile lefs def library design (Read fault master) say holds = absurd holds
  holds_of_texts command profile lefs def library design NoLibrary say holds = absurd holds
  holds_of_texts command profile lefs def library design (Scale fault units) say holds = absurd holds
  holds_of_texts command profile lefs def library design TooMany say holds = record { library = library; design = design; say = say; holds = holds }
  holds_of_texts command profile lefs def library design FixedIllegal say holds = record { library = library; design = design; say = say; holds = holds }
  holds_of_texts command profile lefs def library design (NoSite component) say holds = record { library = library; design = design; say = say; holds = holds }
  holds_of_texts command profile lefs def library design (NoRoom component) say holds = record { library = library; design = design; say = say; holds = holds }
  holds_of_texts command profile lefs def library design (NotClean stage) say holds = record { library = library; design = design; say = say; holds = holds }
  holds_of_texts command profile lefs def library design (GridTooLarge limit) say holds =
      record { library = library; design = design; say = say; holds = holds }
  holds_of_texts command profile lefs def library design (Unroutable net piece) say holds =
      record { library = library; design = design; say = say; holds = holds }
  holds_of_texts command profile lefs def library design (Unreachable net piece) say holds =
      record { library = library; design = design; say = say; holds = holds }
  holds_of_texts command profile lefs def library design Unfinished say holds = record { library = library; design = design; say = say; holds = holds }

  pub explains_texts : (command : Command) (profile : Profile) (lefs : List (List ℕ)) (def : List ℕ) (library : LibraryModel) (design : DesignModel)
      (status : Status)
      (reason : Option (Reason A)) (text : List ℕ) → DenoteDesign profile lefs def library design → Explains (IsSoOfDesign command design) status reason text
      → Explains (IsSoOfTexts command profile lefs def) status reason text
  explains_texts command profile lefs def library design status None text say explains = explains
  explains_texts command profile lefs def library design status (Some reason) text say explains =
      (explains.0, explains.1, holds_of_texts command profile lefs def library design reason say explains.2)

  -- violations that are listed, or told to be none, have no reason
  no_reason : (design : DesignModel) (flat : Option FlatModel) (violations : List Fault) (status : Status) (text : List ℕ) (IsSo : Reason A → Type 0)
      → IsListing design flat violations status text → Explains IsSo status None text
  no_reason design flat violations Success text IsSo listed = tt
  no_reason design flat violations Violations text IsSo listed = tt
  no_reason design flat violations Refused text IsSo listed = absurd listed
  no_reason design flat violations Unsolved text IsSo listed = absurd listed
  no_reason design flat violations Memory text IsSo listed = tt

  pub explains_listing : (design : DesignModel) (flat : Option FlatModel) (violations : List Fault) (status : Status) (reason : Option (Reason A))
      (text : List ℕ) (IsSo : Reason A → Type 0) → reason ≡ None → IsListing design flat violations status text → Explains IsSo status reason text
  explains_listing design flat violations status reason text IsSo none listed =
      subst (λ (r : Option (Reason A)). Explains IsSo status r text) (sym none) (no_reason design flat violations status text IsSo listed)
