-- What LEF and DEF texts denote together, in a profile.
use Rattle.std.specs.Prelude.{ℕ, List}
use Rattle.leg_lex.specs.Denotes.{Denotes}
use Rattle.leg_lib_records.specs.Records.{RawLibraryModel, LibraryModel}
use Rattle.leg_grammar.specs.declared.profile.Profile.{Profile}
use Rattle.leg_grammar.specs.Lef.Library.{DenoteLibrary}
use Rattle.leg_lib_records.specs.Scale.{IsLibraryAt}
use Rattle.leg_design_records.specs.Records.{DesignModel}
use Rattle.leg_grammar.specs.Def.Header.{units_in}
use Rattle.leg_grammar.specs.Def.Form.{design_in}

-- The texts denote this library, at the DEF's own units a micron.
pub record DenoteLibraryFor (profile : Profile) (lefs : List (List ℕ)) (def : List ℕ) (library : LibraryModel) : Type 0 where
  pub raw : RawLibraryModel
  pub units : ℕ
  pub lef : DenoteLibrary profile lefs raw
  pub unit : Denotes units_in def units
  pub scaled : IsLibraryAt units raw library

-- The texts denote this library, and under it the DEF denotes this design.
pub record DenoteDesign (profile : Profile) (lefs : List (List ℕ)) (def : List ℕ) (library : LibraryModel) (design : DesignModel) : Type 0 where
  pub under : DenoteLibraryFor profile lefs def library
  pub said : Denotes (design_in profile library) def design

-- no library and no design are denoted
abbrev pub DenoteNothing : Profile → List (List ℕ) → List ℕ → Type 0
DenoteNothing profile lefs def = (library : LibraryModel) (design : DesignModel) → ¬ DenoteDesign profile lefs def library design
