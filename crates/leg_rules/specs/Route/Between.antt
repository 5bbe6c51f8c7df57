-- The via by which wires go from a routing layer to the next one above (lefdef's own rules; LEF/DEF 5.8, "Via", on DEFAULT).
use Rattle.std.specs.Prelude.{◌≡◌, ℕ, ◌<◌, ◌⊎◌, List, true, Some, slice_get, Contains}
use Rattle.leg_lib_records.specs.JoinLaw.{Joins}
use Rattle.leg_lib_records.specs.GoodVia.{uses_of, parts_of}
use Rattle.leg_lib_records.specs.Records.{LibraryModel, ViaModel}

-- a good via that joins these two routing layers, between which there is no other
pub record JoinsLayers (library : LibraryModel) (low high : ℕ) (via : ViaModel) : Type 0 where
  pub good : via.good ≡ true
  pub cut : ℕ
  pub joins : Joins (uses_of library.layers) (parts_of via.shapes) low cut high

-- one that is a default via
pub record JoinsByDefault (library : LibraryModel) (low high : ℕ) (via : ViaModel) : Type 0 where
  pub joins : JoinsLayers library low high via
  pub default_via : via.default_via ≡ true

-- number k is the first of which this holds
pub record IsFirst (Holds : ViaModel → Type 0) (vias : List ViaModel) (k : ℕ) : Type 0 where
  pub via : ViaModel
  pub there : slice_get vias k ≡ Some via
  pub holds : Holds via
  pub none_before : (j : ℕ) (other : ViaModel) → j < k → slice_get vias j ≡ Some other → ¬ Holds other

-- no default via of the library joins the layers, and number k is the first via that does
pub record IsFirstOther (library : LibraryModel) (low high k : ℕ) : Type 0 where
  pub no_default : (via : ViaModel) → Contains library.vias via → ¬ JoinsByDefault library low high via
  pub first : IsFirst (JoinsLayers library low high) library.vias k

-- Wires go from the layer `low` to the layer `high` by via k of the library: by the first default via that joins them, or
-- where there is none by the first via that does.
abbrev pub IsVia : LibraryModel → ℕ → ℕ → ℕ → Type 0
IsVia library low high k = IsFirst (JoinsByDefault library low high) library.vias k ⊎ IsFirstOther library low high k
