-- What holds of every library, so that upper crates can compute with its lengths (lefdef's own rules; LEF/DEF 5.8,
-- "Layer (Routing)", on WIDTH and SPACING).
use Rattle.std.specs.Prelude.{ℕ, ◌*◌, ◌≤◌, ℤ, pos, ◌≤ℤ◌, ◌<ℤ◌, List, All, unsigned_abs}
use Rattle.leg_lex.specs.declared.limits.TheConstants.{NUMBER_LIMIT, UNITS_LIMIT}
use Rattle.leg_lex.specs.Number.{IsNumber}
use Rattle.leg_geom.specs.Plane.{RectModel}
use Rattle.leg_lib_records.specs.declared.raw.RawKind.{RawKind}
use Rattle.leg_lib_records.specs.declared.raw.RawKind.TheVariants as raw
use Rattle.leg_lib_records.specs.declared.raw.RawLayer.{RawLayer}
use Rattle.leg_lib_records.specs.declared.records.LayerKind.{LayerKind}
use Rattle.leg_lib_records.specs.declared.records.LayerKind.TheVariants.{Routing, Cut, Other}
use Rattle.leg_lib_records.specs.declared.records.Layer.{Layer}
use Rattle.leg_lib_records.specs.declared.records.Shape.{Shape}
use Rattle.leg_lib_records.specs.Measure.{HasArea, IsExtent}
use Rattle.leg_lib_records.specs.Records.{RawRuleModel, RawLibraryModel, ViaModel, MasterModel, RuleModel, LibraryModel}
use Rattle.leg_lib_records.specs.LibraryNames.{HasRawNames, HasNames}
use Rattle.leg_lib_records.specs.References.{HasRawReferences, HasReferences}
use Rattle.leg_lib_records.specs.Scale.{IsEven}

-- only routing layers have a width; as texts write it, it is above 0
abbrev pub HasRawWidth : RawKind → Type 0
HasRawWidth (raw.Routing direction width) = pos 0 <ℤ width
HasRawWidth raw.Cut = Unit {0}
HasRawWidth raw.Other = Unit {0}

-- a layer as texts write it
pub record IsSoundRawLayer (layer : RawLayer) : Type 0 where
  pub width : HasRawWidth layer.kind
  pub spacing : pos 0 ≤ℤ layer.spacing

-- the widths of a rule as texts write it
abbrev pub IsSoundRawRule : RawRuleModel → Type 0
IsSoundRawRule rule = All (λ width. pos 0 <ℤ width.width) rule.widths

-- a library as texts write it
pub record IsSoundRaw (library : RawLibraryModel) : Type 0 where
  pub layers : All IsSoundRawLayer library.layers
  pub sites : All (λ site. HasArea site.size) library.sites
  pub rules : All IsSoundRawRule library.rules
  pub names : HasRawNames library
  pub references : HasRawReferences library

-- a width in database units is above 0 and even, so that half of it is a length too
pub record IsWidth (width : ℤ) : Type 0 where
  pub above : pos 0 <ℤ width
  pub within : IsNumber width
  pub even : IsEven width

abbrev pub HasWidth : LayerKind → Type 0
HasWidth (Routing direction width) = IsWidth width
HasWidth Cut = Unit {0}
HasWidth Other = Unit {0}

pub record IsSpacing (spacing : ℤ) : Type 0 where
  pub least : pos 0 ≤ℤ spacing
  pub within : IsNumber spacing

pub record IsSoundLayer (layer : Layer) : Type 0 where
  pub width : HasWidth layer.kind
  pub spacing : IsSpacing layer.spacing

-- all sides of a rectangle are within this limit, whatever their sign
pub record AreWithin (limit : ℕ) (sides : RectModel) : Type 0 where
  pub x1 : unsigned_abs sides.x1 ≤ limit
  pub y1 : unsigned_abs sides.y1 ≤ limit
  pub x2 : unsigned_abs sides.x2 ≤ limit
  pub y2 : unsigned_abs sides.y2 ≤ limit

abbrev pub AreShapesWithin : ℕ → List Shape → Type 0
AreShapesWithin limit shapes = All (λ shape. AreWithin limit shape.rect) shapes

-- a via's shapes have the sides that texts write
abbrev pub IsSoundVia : ViaModel → Type 0
IsSoundVia via = AreShapesWithin NUMBER_LIMIT via.shapes

-- an origin has moved the shapes of a macro, by a number at most
pub record IsSoundMaster (master : MasterModel) : Type 0 where
  pub pins : All (λ pin. AreShapesWithin (2 * NUMBER_LIMIT) pin.shapes) master.pins
  pub obstructions : AreShapesWithin (2 * NUMBER_LIMIT) master.obstructions

-- a width that a rule gives, which may be odd
pub record IsRuleWidth (width : ℤ) : Type 0 where
  pub above : pos 0 <ℤ width
  pub within : IsNumber width

abbrev pub IsSoundRule : RuleModel → Type 0
IsSoundRule rule = All (λ width. IsRuleWidth width.width) rule.widths

-- a library in database units, of which a micron has 1 at least and the limit at most
pub record IsSound (library : LibraryModel) : Type 0 where
  pub least_units : 1 ≤ library.units
  pub most_units : library.units ≤ UNITS_LIMIT
  pub layers : All IsSoundLayer library.layers
  pub sites : All (λ site. IsExtent site.size) library.sites
  pub vias : All IsSoundVia library.vias
  pub masters : All IsSoundMaster library.masters
  pub rules : All IsSoundRule library.rules
  pub names : HasNames library
  pub references : HasReferences library
