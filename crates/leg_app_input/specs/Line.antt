-- The command line: what the words after the program's name ask.
use Rattle.std.specs.Prelude.{◌≡◌, ◌≢◌, ◌⊎◌, ◌||◌, ◌&&◌, not, ℕ, Bool, List, [], ◌∷◌, map, string_bytes, Option, None, Some, is_some, is_none, option_map, codes, if◌then◌else◌}
use Rattle.std.specs.Str.{bytes_eq}
use Rattle.leg_app_input.specs.declared.command.Command.{Command}
use Rattle.leg_grammar.specs.declared.profile.Profile.{Profile}
use Rattle.leg_app_input.specs.Options.{after_options, profile_of, names_option}
use Rattle.leg_app_input.specs.declared.line.Asked.{Asked}
use Rattle.leg_app_input.specs.declared.line.Asked.TheVariants.{Stream, Help, Version, Compare, Files, WrongOption}
use Rattle.leg_app_input.specs.declared.command.Command.TheVariants.{PlaceCheck, Check, Measure, Legalise, Route, Flow, Finish, Print}

-- the command of exactly this name
abbrev pub command_named : List ℕ → Option Command
command_named name =
    if bytes_eq name (codes "check") then Some Check
    else (if bytes_eq name (codes "place-check") then Some PlaceCheck
    else (if bytes_eq name (codes "measure") then Some Measure
    else (if bytes_eq name (codes "legalise") then Some Legalise
    else (if bytes_eq name (codes "route") then Some Route
    else (if bytes_eq name (codes "flow") then Some Flow
    else (if bytes_eq name (codes "finish") then Some Finish
    else (if bytes_eq name (codes "print") then Some Print else None)))))))

-- a command's name, a DEF, and one LEF or more
abbrev pub line_of : List (List ℕ) → Option (Command × List ℕ × List (List ℕ))
line_of (name ∷ def ∷ lef ∷ lefs) = option_map (λ command. (command, def, lef ∷ lefs)) (command_named name)
line_of words = None

-- the word that asks for a comparison, two DEFs, and one LEF or more
abbrev pub compare_line_of : List (List ℕ) → Option (List ℕ × List ℕ × List (List ℕ))
compare_line_of (name ∷ before ∷ after ∷ lef ∷ lefs) = if bytes_eq name (codes "compare") then Some (before, after, lef ∷ lefs) else None
compare_line_of words = None

-- what a line of this form asks for behind options, in the profile that these ask for
abbrev pub in_profile : {A : Type 0} → (List (List ℕ) → Option A) → Option Profile → List (List ℕ) → Option (Profile × A)
in_profile line None words = None
in_profile line (Some profile) words = option_map (λ asked. (profile, asked)) (line words)

abbrev pub behind_options : {A : Type 0} → (List (List ℕ) → Option A) → List (List ℕ) → Option (Profile × A)
behind_options line words =
    let options = after_options words in
    in_profile line (profile_of options.0) options.1

-- the word names a command
abbrev pub names_command : List ℕ → Bool
names_command word = is_some (command_named word) || bytes_eq word (codes "compare")

-- the first of these words, where it is wrong behind options: it names no command, and it names an option or stands behind one
abbrev pub wrong_behind : Bool → List (List ℕ) → Option (List ℕ)
wrong_behind wide [] = None
wrong_behind wide (word ∷ words) = if (names_option word || wide) && not (names_command word) then Some word else None

abbrev pub first_of : List (List ℕ) → Option (List ℕ)
first_of [] = None
first_of (word ∷ words) = Some word

-- The word at which the options of a line are wrong: the first of all where they need --wide, else the first behind those that may stand.
abbrev pub wrong_option : List (List ℕ) → Option (List ℕ)
wrong_option words =
    let options = after_options words in
    if is_none (profile_of options.0) then first_of words else wrong_behind options.0.wide options.1

-- a word that asks for help
abbrev pub IsHelpWord : List ℕ → Type 0
IsHelpWord word = (word ≡ codes "--help") ⊎ (word ≡ codes "-h")

-- a word that asks for the program's version
abbrev pub IsVersionWord : List ℕ → Type 0
IsVersionWord word = (word ≡ codes "--version") ⊎ (word ≡ codes "-V")

-- one word alone, of which this holds
abbrev pub IsAlone : (List ℕ → Type 0) → List (List ℕ) → Type 0
IsAlone P (word ∷ []) = P word
IsAlone P words = ⊥

-- No words ask for standard input, a word alone for help or for the version, and others for what their line denotes behind its options:
-- no line denotes both a comparison and a command. A line that denotes neither may have a wrong option.
abbrev pub Asks : {A : Type 0} → List (List ℕ) → Asked A → Type 0
Asks words Stream = words ≡ []
Asks words Help = IsAlone IsHelpWord words
Asks words Version = IsAlone IsVersionWord words
Asks words (Compare line) =
    behind_options compare_line_of words ≡ Some (line.profile, (line.before.now, line.after.now, map string_bytes line.lefs.now))
Asks words (Files line) = behind_options line_of words ≡ Some (line.profile, (line.command, line.def.now, map string_bytes line.lefs.now))
Asks words (WrongOption word) = (behind_options compare_line_of words ≡ None) × (behind_options line_of words ≡ None) × (wrong_option words ≡ Some word.now)

-- the words ask for none of these
pub record AsksNothing (words : List (List ℕ)) : Type 0 where
  pub some : words ≢ []
  pub no_help : ¬ IsAlone IsHelpWord words
  pub no_version : ¬ IsAlone IsVersionWord words
  pub no_comparison : behind_options compare_line_of words ≡ None
  pub no_line : behind_options line_of words ≡ None
  pub no_option : wrong_option words ≡ None
