-- What the records of a library refer to: shapes and the widths of rules are on layers that it has, a macro has a site that
-- it has, and a via is good if and only if its name and its shapes are those of a good via (lefdef's own rules; LEF/DEF 5.8, "Via" and "Macro").
use Rattle.std.specs.Prelude.{◌≡◌, ℕ, ◌<◌, List, length, map, All, IfSome}
use Rattle.leg_lib_records.specs.declared.raw.RawLayer.{RawLayer}
use Rattle.leg_lib_records.specs.declared.raw.RawSite.{RawSite}
use Rattle.leg_lib_records.specs.declared.raw.RawShape.{RawShape}
use Rattle.leg_lib_records.specs.declared.records.Shape.{Shape}
use Rattle.leg_lib_records.specs.Records.{RawViaModel, RawMasterModel, RawRuleModel, RawLibraryModel, ViaModel, MasterModel, RuleModel, LibraryModel}
use Rattle.leg_lib_records.specs.GoodVia.{is_raw_good_via, is_good_via}
use Rattle.leg_lib_records.specs.LibraryNames.{AreNames}

-- each shape is on one of this many layers
abbrev pub AreRawShapesOn : ℕ → List RawShape → Type 0
AreRawShapesOn layers shapes = All (λ shape. shape.layer < layers) shapes

abbrev pub AreShapesOn : ℕ → List Shape → Type 0
AreShapesOn layers shapes = All (λ shape. shape.layer < layers) shapes

-- a via, as texts write it, in a library with these layers
pub record IsRawViaOf (layers : List RawLayer) (via : RawViaModel) : Type 0 where
  pub on_layers : AreRawShapesOn (length layers) via.shapes
  pub good : via.good ≡ is_raw_good_via layers via.name via.shapes

-- a macro, as texts write it, in a library with these layers and sites; no two of its pins have one name
pub record IsRawMasterOf (layers : List RawLayer) (sites : List RawSite) (master : RawMasterModel) : Type 0 where
  pub site : IfSome master.site (λ k. k < length sites)
  pub pin_names : AreNames (map (λ pin. pin.name) master.pins)
  pub pins : All (λ pin. AreRawShapesOn (length layers) pin.shapes) master.pins
  pub obstructions : AreRawShapesOn (length layers) master.obstructions

-- each width of a rule is that of a layer in a library with these layers
abbrev pub IsRawRuleOf : List RawLayer → RawRuleModel → Type 0
IsRawRuleOf layers rule = All (λ width. width.layer < length layers) rule.widths

-- the vias, macros and rules of a library as texts write it
pub record HasRawReferences (library : RawLibraryModel) : Type 0 where
  pub vias : All (IsRawViaOf library.layers) library.vias
  pub masters : All (IsRawMasterOf library.layers library.sites) library.masters
  pub rules : All (IsRawRuleOf library.layers) library.rules

-- a via of a library in database units
pub record IsViaOf (library : LibraryModel) (via : ViaModel) : Type 0 where
  pub on_layers : AreShapesOn (length library.layers) via.shapes
  pub good : via.good ≡ is_good_via library via.name via.shapes

-- a macro of a library in database units; no two of its pins have one name
pub record IsMasterOf (library : LibraryModel) (master : MasterModel) : Type 0 where
  pub site : IfSome master.site (λ k. k < length library.sites)
  pub pin_names : AreNames (map (λ pin. pin.name) master.pins)
  pub pins : All (λ pin. AreShapesOn (length library.layers) pin.shapes) master.pins
  pub obstructions : AreShapesOn (length library.layers) master.obstructions

-- each width of a rule is that of a layer of the library
abbrev pub IsRuleOf : LibraryModel → RuleModel → Type 0
IsRuleOf library rule = All (λ width. width.layer < length library.layers) rule.widths

-- the vias, macros and rules of a library in database units
pub record HasReferences (library : LibraryModel) : Type 0 where
  pub vias : All (IsViaOf library) library.vias
  pub masters : All (IsMasterOf library) library.masters
  pub rules : All (IsRuleOf library) library.rules
