-- What is known of the library that texts denote, before their DEF is read.
use Rattle.std.specs.Prelude.{◌≡◌, ℕ, List}
use Rattle.leg_lib_records.specs.Records.{LibraryModel}
use Rattle.leg_grammar.specs.declared.profile.Profile.{Profile}
use Rattle.leg_grammar.specs.Texts.{DenoteLibraryFor}

-- this library is denoted, and no other
pub record DenotesJust (profile : Profile) (lefs : List (List ℕ)) (def : List ℕ) (library : LibraryModel) : Type 0 where
  pub found : DenoteLibraryFor profile lefs def library
  pub only : (said : LibraryModel) → DenoteLibraryFor profile lefs def said → said ≡ library

-- no library is denoted
abbrev pub DenoteNoLibrary : Profile → List (List ℕ) → List ℕ → Type 0
DenoteNoLibrary profile lefs def = (library : LibraryModel) → ¬ DenoteLibraryFor profile lefs def library
