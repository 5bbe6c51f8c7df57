-- What is known of a reason is known of it whatever memory holds its names.
use Rattle.std.proofs.Common.{ℕ, List, Option, None, Some, option_map}
use Rattle.leg_grammar.specs.declared.profile.Profile.{Profile}
use Rattle.leg_app_input.specs.declared.command.Command.{Command}
use Rattle.leg_app_reason.specs.declared.reason.Reason.{Reason}
use Rattle.leg_app_reason.specs.declared.reason.Reason.TheVariants.{Read, NoLibrary, Scale, TooMany, FixedIllegal, NoSite, NoRoom, NotClean, GridTooLarge, Unroutable, Unreachable, Unfinished}
use Rattle.leg_app.specs.declared.status.Status.{Status}
use Rattle.leg_app.specs.Reason.{ReportsReason, IsSoOfTexts, IsExplained}
use Rattle.leg_c_call.specs.Explanation.{said}

module _ {A : Type 0} (command : Command) (profile : Profile) (lefs : List (List ℕ)) (def : List ℕ) where
  holds_said : (reason : Reason A) → IsSoOfTexts command profile lefs def reason → IsSoOfTexts command profile lefs def (said reason)
  holds_said (Read fault master) h = h
  holds_said NoLibrary h = record { library = h.library; design = h.design; say = h.say; holds = h.holds }
  holds_said (Scale fault units) h = h
  holds_said TooMany h = record { library = h.library; design = h.design; say = h.say; holds = h.holds }
  holds_said FixedIllegal h = record { library = h.library; design = h.design; say = h.say; holds = h.holds }
  holds_said (NoSite component) h = record { library = h.library; design = h.design; say = h.say; holds = h.holds }
  holds_said (NoRoom component) h = record { library = h.library; design = h.design; say = h.say; holds = h.holds }
  holds_said (NotClean stage) h = record { library = h.library; design = h.design; say = h.say; holds = h.holds }
  holds_said (GridTooLarge limit) h = record { library = h.library; design = h.design; say = h.say; holds = h.holds }
  holds_said (Unroutable net piece) h = record { library = h.library; design = h.design; say = h.say; holds = h.holds }
  holds_said (Unreachable net piece) h = record { library = h.library; design = h.design; say = h.say; holds = h.holds }
  holds_said Unfinished h = record { library = h.library; design = h.design; say = h.say; holds = h.holds }

  tells_said : (reason : Reason A) (text : List ℕ) → ReportsReason reason text → ReportsReason (said reason) text
  tells_said (Read fault master) text h = h
  tells_said NoLibrary text h = h
  tells_said (Scale fault units) text h = h
  tells_said TooMany text h = h
  tells_said FixedIllegal text h = h
  tells_said (NoSite component) text h = h
  tells_said (NoRoom component) text h = h
  tells_said (NotClean stage) text h = h
  tells_said (GridTooLarge limit) text h = h
  tells_said (Unroutable net piece) text h = h
  tells_said (Unreachable net piece) text h = h
  tells_said Unfinished text h = h

  pub explained_said : (reason : Option (Reason A)) (status : Status) (text : List ℕ) → IsExplained command profile lefs def reason status text
      → IsExplained command profile lefs def (option_map said reason) status text
  explained_said None status text h = record { answer = h.answer; explains = h.explains }
  explained_said (Some reason) status text h =
      record { answer = h.answer; explains = (h.explains.0, tells_said reason text h.explains.1, holds_said reason h.explains.2) }
