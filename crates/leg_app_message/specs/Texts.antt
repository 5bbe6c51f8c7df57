-- The texts of a run, by their numbers: LEFs count from 0, and the DEF is next.
use Rattle.std.specs.Prelude.{ℕ, Bool, List, [], length, nat_lt, if◌then◌else◌, Option, None, Some, slice_get, unwrap_or, codes}
use Rattle.leg_grammar.specs.declared.profile.Profile.{Profile}

-- how the words of a command line name the files
pub record FileNames : Type 0 where
  pub lefs : List (List ℕ)
  pub def : List ℕ

-- the texts, the profile in which they are read, and the names of their files; none for standard input
pub record TextsModel : Type 0 where
  pub profile : Profile
  pub names : Option FileNames
  pub lefs : List (List ℕ)
  pub def : List ℕ

-- the text of this number
abbrev pub text_of : TextsModel → ℕ → List ℕ
text_of texts number = unwrap_or (slice_get texts.lefs number) texts.def

-- the name of its file, as it was given
abbrev pub path_in : Option FileNames → ℕ → List ℕ
path_in None number = codes "-"
path_in (Some names) number = unwrap_or (slice_get names.lefs number) names.def

abbrev pub path_of : TextsModel → ℕ → List ℕ
path_of texts number = path_in texts.names number

-- which part of standard input it is; nothing for files
abbrev pub part_in : Option FileNames → Bool → List ℕ
part_in None is_lef = if is_lef then codes "in the LEF: " else codes "in the DEF: "
part_in (Some names) is_lef = []

abbrev pub part_of : TextsModel → ℕ → List ℕ
part_of texts number = part_in texts.names (nat_lt number (length texts.lefs))
