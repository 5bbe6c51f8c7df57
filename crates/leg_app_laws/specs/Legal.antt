-- That a command which lists violations finds none (lefdef's own rule).
use Rattle.std.specs.Prelude.{◌≡◌, ◌≢◌, ℕ, List}
use Rattle.leg_app_input.specs.declared.command.Command.{Command}
use Rattle.leg_app.specs.declared.status.Status.{Status}
use Rattle.leg_app.specs.declared.status.Status.TheVariants.{Success, Memory}
use Rattle.leg_output.specs.Commands.Check.{legal_text}
use Rattle.leg_grammar.specs.declared.profile.Profile.{Profile}
use Rattle.leg_app.specs.Answer.{IsAnswer}

-- `legal`, with status 0, is an answer of the command to these texts, and unless memory runs out there is no other.
pub record AnswersLegal (command : Command) (profile : Profile) (lefs : List (List ℕ)) (def : List ℕ) : Type 0 where
  pub legal : IsAnswer command profile lefs def Success legal_text
  pub only : (status : Status) (text : List ℕ) → IsAnswer command profile lefs def status text → status ≢ Memory
      → (status ≡ Success) × (text ≡ legal_text)
