-- Calls from other languages (lefdef's own rules).
use Rattle.std.specs.Prelude.{◌≡◌, ℕ, ◌/◌, ◌%◌, List, [], ◌∷◌, ◌++◌, length, get_or, take, drop, slice_get, Option, None, Some}
use Rattle.std.specs.Option.{option_zip}
use Rattle.leg_grammar.specs.declared.profile.Masks.TheVariants as masks
use Rattle.leg_grammar.specs.declared.profile.Soft.TheVariants as soft
use Rattle.leg_grammar.specs.declared.profile.Profile.{Profile}
use Rattle.leg_grammar.specs.declared.profile.Profile.TheVariants.{Narrow, Wide}
use Rattle.leg_app_input.specs.declared.command.Command.{Command}
use Rattle.leg_app_input.specs.declared.command.Command.TheVariants.{Check, PlaceCheck, Measure, Legalise, Route, Flow, Finish, Print}
use Rattle.leg_app.specs.declared.status.Status.{Status}
use Rattle.leg_app.specs.Answer.{IsAnswer, exit_code}

-- the commands, in the order of their numbers from 0 on
abbrev pub commands : List Command
commands = Check ∷ PlaceCheck ∷ Measure ∷ Legalise ∷ Route ∷ Flow ∷ Finish ∷ Print ∷ []

-- the command of this number
abbrev pub command_of : ℕ → Option Command
command_of number = slice_get commands number

-- the profiles, in the order of their flags from 0 on: 1 is the wide profile, and with it 2 drops masks, and 4 drops soft blockages or 8
-- takes them as hard ones
abbrev pub profiles : List (Option Profile)
profiles =
    Some Narrow ∷ Some (Wide masks.Refused soft.Refused)
    ∷ None ∷ Some (Wide masks.Dropped soft.Refused)
    ∷ None ∷ Some (Wide masks.Refused soft.Dropped)
    ∷ None ∷ Some (Wide masks.Dropped soft.Dropped)
    ∷ None ∷ Some (Wide masks.Refused soft.Hard)
    ∷ None ∷ Some (Wide masks.Dropped soft.Hard) ∷ []

-- the profile of these flags; none where they do not go together
abbrev pub profile_of : ℕ → Option Profile
profile_of flags = get_or profiles flags None

-- what a number asks, if it has both: its command is that of its remainder by 256, and the flags of its profile are its quotient
abbrev pub request_of : ℕ → Option (Command × Profile)
request_of number = option_zip (command_of (number % 256)) (profile_of (number / 256))

-- the buffer, with as much of the text's front as fits in place of its own
abbrev pub overlay : List ℕ → List ℕ → List ℕ
overlay text buffer = take (length buffer) text ++ drop (length text) buffer

-- An answer of the command to these texts, read in the profile, in a buffer: the code is that of its status, and the count that of its
-- bytes.
pub record Answers (command : Command) (profile : Profile) (lefs : List (List ℕ)) (def before after : List ℕ) (count code : ℕ) : Type 0 where
  pub status : Status
  pub text : List ℕ
  pub answer : IsAnswer command profile lefs def status text
  pub ends : code ≡ exit_code status
  pub counts : count ≡ length text
  pub fills : after ≡ overlay text before
