-- That memory ran out is an answer of every command.
use Rattle.std.proofs.Common.{◌≡◌, ℕ, List, length, Option, None, Some, IfSome, refl}
use Rattle.leg_grammar.specs.declared.profile.Profile.{Profile}
use Rattle.leg_app_input.specs.declared.command.Command.{Command}
use Rattle.leg_app.specs.declared.status.Status.TheVariants.{Memory}
use Rattle.leg_output.specs.Commands.Check.{memory_text}
use Rattle.leg_app.specs.Answer.{exit_code}
use Rattle.leg_c_call.specs.Call.{overlay, Answers}

pub out_of_memory : (asked : Option (Command × Profile)) (lefs : List (List ℕ)) (def before after : List ℕ) (count code : ℕ)
    → code ≡ exit_code Memory → count ≡ length memory_text → after ≡ overlay memory_text before
    → IfSome asked (λ both. Answers both.0 both.1 lefs def before after count code)
out_of_memory None lefs def before after count code ends counts fills = tt
out_of_memory (Some both) lefs def before after count code ends counts fills =
    record { status = Memory; text = memory_text; answer = refl; ends = ends; counts = counts; fills = fills }
