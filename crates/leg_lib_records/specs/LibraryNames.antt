-- The names of a library: of its layers, of its sites, of its vias, of its macros and of its nondefault rules, no two are
-- the same (LEF/DEF 5.8,
-- "LEF Syntax").
use Rattle.std.specs.Prelude.{ℕ, List, All, IsTrue}
use Rattle.leg_lex.specs.Words.{is_name}
use Rattle.leg_lex.specs.NameLookup.{AreApart}
use Rattle.leg_lib_records.specs.Records.{RawLibraryModel, raw_layer_names, raw_site_names, raw_via_names, raw_master_names, raw_rule_names, LibraryModel, layer_names, site_names, via_names, master_names, rule_names}

-- names as texts write them, no two of them the same
pub record AreNames (names : List (List ℕ)) : Type 0 where
  pub each : All (λ name. IsTrue (is_name name)) names
  pub apart : AreApart names

-- the names of layers, sites, vias, macros and rules, as texts write them
pub record HasRawNames (library : RawLibraryModel) : Type 0 where
  pub layers : AreNames (raw_layer_names library)
  pub sites : AreNames (raw_site_names library)
  pub vias : AreNames (raw_via_names library)
  pub masters : AreNames (raw_master_names library)
  pub rules : AreNames (raw_rule_names library)

-- the names of layers, sites, vias, macros and rules
pub record HasNames (library : LibraryModel) : Type 0 where
  pub layers : AreNames (layer_names library)
  pub sites : AreNames (site_names library)
  pub vias : AreNames (via_names library)
  pub masters : AreNames (master_names library)
  pub rules : AreNames (rule_names library)
