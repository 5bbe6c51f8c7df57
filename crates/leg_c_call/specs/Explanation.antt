-- Calls from other languages that are answered with a message (lefdef's own rules).
use Rattle.std.specs.Prelude.{◌≡◌, ℕ, List, [], length, ◌⊎◌, Option, None, Some}
use Rattle.leg_grammar.specs.declared.profile.Profile.{Profile}
use Rattle.leg_app_input.specs.declared.command.Command.{Command}
use Rattle.leg_app_reason.specs.declared.reason.Reason.{Reason}
use Rattle.leg_app_reason.specs.declared.reason.Reason.TheVariants.{Read, NoLibrary, Scale, TooMany, FixedIllegal, NoSite, NoRoom, NotClean, GridTooLarge, Unroutable, Unreachable, Unfinished}
use Rattle.leg_app_message.specs.Message.{IsMessage}
use Rattle.leg_app_message.specs.Texts.{TextsModel}
use Rattle.leg_app.specs.declared.status.Status.{Status}
use Rattle.leg_app.specs.Answer.{exit_code}
use Rattle.leg_app.specs.Reason.{IsExplained}
use Rattle.leg_c_call.specs.Call.{overlay}

-- texts of files with these names, which are read in the profile
abbrev pub named_texts : Profile → List (List ℕ) → List ℕ → List (List ℕ) → List ℕ → TextsModel
named_texts profile lef_names def_name lefs def =
    record { profile = profile; names = Some (record { lefs = lef_names; def = def_name }); lefs = lefs; def = def }

-- a reason, whatever memory holds its names
abbrev pub ReasonModel : Type 0
ReasonModel = Reason (Unit {0})

abbrev pub said : {A : Type 0} → Reason A → ReasonModel
said (Read fault master) = Read fault master
said NoLibrary = NoLibrary
said (Scale fault units) = Scale fault units
said TooMany = TooMany
said FixedIllegal = FixedIllegal
said (NoSite component) = NoSite component
said (NoRoom component) = NoRoom component
said (NotClean stage) = NotClean stage
said (GridTooLarge limit) = GridTooLarge limit
said (Unroutable net piece) = Unroutable net piece
said (Unreachable net piece) = Unreachable net piece
said Unfinished = Unfinished

-- the message on an answer with this reason; none where it has none, and perhaps none where memory ran out
abbrev pub HasMessage : TextsModel → Option ReasonModel → List ℕ → Type 0
HasMessage texts None message = message ≡ []
HasMessage texts (Some reason) message = (message ≡ []) ⊎ IsMessage texts reason message

-- An answer of the command to these texts in a buffer, and in another one the message on its reason: the code is that of its status, and
-- the counts are those of their bytes.
pub record AnswersExplained (command : Command) (texts : TextsModel) (before after : List ℕ) (count code : ℕ) (empty filled : List ℕ) (size : ℕ) : Type 0 where
  pub status : Status
  pub text : List ℕ
  pub reason : Option ReasonModel
  pub message : List ℕ
  pub answer : IsExplained command texts.profile texts.lefs texts.def reason status text
  pub ends : code ≡ exit_code status
  pub counts : count ≡ length text
  pub fills : after ≡ overlay text before
  pub is : HasMessage texts reason message
  pub message_counts : size ≡ length message
  pub message_fills : filled ≡ overlay message empty
