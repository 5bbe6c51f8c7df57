-- What LEF and DEF texts denote together.
use Rattle.std.specs.Prelude.{◌<◌, ℕ, List, length}
use Rattle.leg_lib_records.specs.Records.{LibraryModel}
use Rattle.leg_design_records.specs.Records.{DesignModel}
use Rattle.leg_design_records.specs.declared.limits.TheConstants.{PART_LIMIT}
use Rattle.leg_rules.specs.Metal.Metal.{metal_of}
use Rattle.leg_grammar.specs.declared.profile.Profile.{Profile}
use Rattle.leg_grammar.specs.Texts.{DenoteDesign}

-- a design with more shapes than a flat may have is denoted
pub record DenoteTooMany (profile : Profile) (lefs : List (List ℕ)) (def : List ℕ) : Type 0 where
  pub library : LibraryModel
  pub design : DesignModel
  pub say : DenoteDesign profile lefs def library design
  pub many : PART_LIMIT < length (metal_of design)
