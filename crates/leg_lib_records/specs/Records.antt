-- What LEF texts denote, as records: in millionths of a micron (raw), and in database units (LEF/DEF 5.8,
-- "LEF Syntax").
use Rattle.std.specs.Prelude.{ℕ, Bool, List, [], map, Option}
use Rattle.leg_geom.specs.Plane.{PointModel}
use Rattle.leg_lib_records.specs.Measure.{ExtentModel}
use Rattle.leg_lib_records.specs.declared.raw.RawLayer.{RawLayer}
use Rattle.leg_lib_records.specs.declared.raw.RawSite.{RawSite}
use Rattle.leg_lib_records.specs.declared.raw.RawShape.{RawShape}
use Rattle.leg_lib_records.specs.declared.raw.RawRuleWidth.{RawRuleWidth}
use Rattle.leg_lib_records.specs.declared.records.Supply.{Supply}
use Rattle.leg_lib_records.specs.declared.records.Layer.{Layer}
use Rattle.leg_lib_records.specs.declared.records.Site.{Site}
use Rattle.leg_lib_records.specs.declared.records.Shape.{Shape}
use Rattle.leg_lib_records.specs.declared.records.RuleWidth.{RuleWidth}

-- a via: `good` is whether a wire may name it, and one that isn't good has no shapes
pub record RawViaModel : Type 0 where
  pub name : List ℕ
  pub default_via : Bool
  pub good : Bool
  pub shapes : List RawShape

-- a pin of a macro, with the shapes of all its ports
pub record RawPinModel : Type 0 where
  pub name : List ℕ
  pub supply : Supply
  pub shapes : List RawShape

-- a macro; its site is given by its number, and its origin is not yet added to its shapes
pub record RawMasterModel : Type 0 where
  pub name : List ℕ
  pub size : ExtentModel
  pub origin : PointModel
  pub y_symmetric : Bool
  pub site : Option ℕ
  pub pins : List RawPinModel
  pub obstructions : List RawShape

-- a nondefault rule: the widths of wires under it, on the layers that it names (LEF/DEF 5.8, "Nondefault Rule")
pub record RawRuleModel : Type 0 where
  pub name : List ℕ
  pub widths : List RawRuleWidth

-- a library as it is read, in millionths of a micron
pub record RawLibraryModel : Type 0 where
  pub layers : List RawLayer
  pub sites : List RawSite
  pub vias : List RawViaModel
  pub masters : List RawMasterModel
  pub rules : List RawRuleModel

abbrev pub empty_library : RawLibraryModel
empty_library = record { layers = []; sites = []; vias = []; masters = []; rules = [] }

pub record ViaModel : Type 0 where
  pub name : List ℕ
  pub default_via : Bool
  pub good : Bool
  pub shapes : List Shape

pub record MasterPinModel : Type 0 where
  pub name : List ℕ
  pub supply : Supply
  pub shapes : List Shape

-- a macro, with its origin added to its shapes
pub record MasterModel : Type 0 where
  pub name : List ℕ
  pub size : ExtentModel
  pub y_symmetric : Bool
  pub site : Option ℕ
  pub pins : List MasterPinModel
  pub obstructions : List Shape

pub record RuleModel : Type 0 where
  pub name : List ℕ
  pub widths : List RuleWidth

-- a library at this many database units a micron
pub record LibraryModel : Type 0 where
  pub units : ℕ
  pub layers : List Layer
  pub sites : List Site
  pub vias : List ViaModel
  pub masters : List MasterModel
  pub rules : List RuleModel

abbrev pub raw_layer_names : RawLibraryModel → List (List ℕ)
raw_layer_names library = map (λ l. l.name) library.layers

abbrev pub raw_site_names : RawLibraryModel → List (List ℕ)
raw_site_names library = map (λ s. s.name) library.sites

abbrev pub raw_via_names : RawLibraryModel → List (List ℕ)
raw_via_names library = map (λ v. v.name) library.vias

abbrev pub raw_master_names : RawLibraryModel → List (List ℕ)
raw_master_names library = map (λ m. m.name) library.masters

abbrev pub raw_rule_names : RawLibraryModel → List (List ℕ)
raw_rule_names library = map (λ r. r.name) library.rules

abbrev pub layer_names : LibraryModel → List (List ℕ)
layer_names library = map (λ l. l.name) library.layers

abbrev pub site_names : LibraryModel → List (List ℕ)
site_names library = map (λ s. s.name) library.sites

abbrev pub via_names : LibraryModel → List (List ℕ)
via_names library = map (λ v. v.name) library.vias

abbrev pub master_names : LibraryModel → List (List ℕ)
master_names library = map (λ m. m.name) library.masters

abbrev pub rule_names : LibraryModel → List (List ℕ)
rule_names library = map (λ r. r.name) library.rules
