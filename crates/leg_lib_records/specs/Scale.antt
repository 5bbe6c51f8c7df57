-- A library in database units: each length is replaced by what denotes it exactly, and a macro's origin is
-- added to its shapes (lefdef's own rules; LEF/DEF 5.8, "Macro", on ORIGIN).
use Rattle.std.specs.Prelude.{◌≡◌, ℕ, ℤ, pos, ◌+ℤ◌, ◌-ℤ◌, List, [], ◌∷◌}
use Rattle.leg_lex.specs.Number.{IsNumber, IsUnits}
use Rattle.leg_geom.specs.Plane.{PointModel, RectModel}
use Rattle.leg_lib_records.specs.declared.raw.RawKind.{RawKind}
use Rattle.leg_lib_records.specs.declared.raw.RawKind.TheVariants as raw
use Rattle.leg_lib_records.specs.declared.raw.RawLayer.{RawLayer}
use Rattle.leg_lib_records.specs.declared.raw.RawSite.{RawSite}
use Rattle.leg_lib_records.specs.declared.raw.RawShape.{RawShape}
use Rattle.leg_lib_records.specs.declared.raw.RawRuleWidth.{RawRuleWidth}
use Rattle.leg_lib_records.specs.declared.records.LayerKind.{LayerKind}
use Rattle.leg_lib_records.specs.declared.records.LayerKind.TheVariants.{Routing, Cut, Other}
use Rattle.leg_lib_records.specs.declared.records.Layer.{Layer}
use Rattle.leg_lib_records.specs.declared.records.Site.{Site}
use Rattle.leg_lib_records.specs.declared.records.Shape.{Shape}
use Rattle.leg_lib_records.specs.declared.records.RuleWidth.{RuleWidth}
use Rattle.leg_lib_records.specs.Measure.{ExtentModel}
use Rattle.leg_lib_records.specs.Records.{RawViaModel, RawPinModel, RawMasterModel, RawRuleModel, RawLibraryModel, ViaModel, MasterPinModel, MasterModel, RuleModel, LibraryModel}

-- u units are m millionths of a micron at n units a micron, and within the limit
pub record IsLengthAt (n : ℕ) (m u : ℤ) : Type 0 where
  pub exact : IsUnits m n u
  pub within : IsNumber u

pub record IsSizeAt (n : ℕ) (raw size : ExtentModel) : Type 0 where
  pub width : IsLengthAt n raw.width size.width
  pub height : IsLengthAt n raw.height size.height

pub record IsSpotAt (n : ℕ) (raw spot : PointModel) : Type 0 where
  pub x : IsLengthAt n raw.x spot.x
  pub y : IsLengthAt n raw.y spot.y

-- one for one, in order
abbrev pub OneForOne : {X Y : Type 0} → (X → Y → Type 0) → List X → List Y → Type 0
OneForOne R [] [] = Unit {0}
OneForOne R [] (y ∷ ys) = ⊥
OneForOne R (x ∷ xs) [] = ⊥
OneForOne R (x ∷ xs) (y ∷ ys) = R x y × OneForOne R xs ys

-- the rectangle, less the shift, is what was written
pub record IsRectAt (n : ℕ) (shift : PointModel) (raw rect : RectModel) : Type 0 where
  pub x1 : IsLengthAt n raw.x1 (rect.x1 -ℤ shift.x)
  pub y1 : IsLengthAt n raw.y1 (rect.y1 -ℤ shift.y)
  pub x2 : IsLengthAt n raw.x2 (rect.x2 -ℤ shift.x)
  pub y2 : IsLengthAt n raw.y2 (rect.y2 -ℤ shift.y)

pub record IsShapeAt (n : ℕ) (shift : PointModel) (raw : RawShape) (shape : Shape) : Type 0 where
  pub layer : shape.layer ≡ raw.layer
  pub rect : IsRectAt n shift raw.rect shape.rect

abbrev pub IsEven : ℤ → Type 0
IsEven z = (half : ℤ) × (z ≡ half +ℤ half)

-- a routing layer's width is even, so that wires have a middle line
abbrev pub IsKindAt : ℕ → RawKind → LayerKind → Type 0
IsKindAt n (raw.Routing direction width) (Routing way u) = (way ≡ direction) × IsLengthAt n width u × IsEven u
IsKindAt n raw.Cut Cut = Unit {0}
IsKindAt n raw.Other Other = Unit {0}
IsKindAt n kind scaled = ⊥

pub record IsLayerAt (n : ℕ) (raw : RawLayer) (layer : Layer) : Type 0 where
  pub name : layer.name ≡ raw.name
  pub kind : IsKindAt n raw.kind layer.kind
  pub spacing : IsLengthAt n raw.spacing layer.spacing

pub record IsSiteAt (n : ℕ) (raw : RawSite) (site : Site) : Type 0 where
  pub name : site.name ≡ raw.name
  pub size : IsSizeAt n raw.size site.size

abbrev pub no_shift : PointModel
no_shift = record { x = pos 0; y = pos 0 }

pub record IsViaAt (n : ℕ) (raw : RawViaModel) (via : ViaModel) : Type 0 where
  pub name : via.name ≡ raw.name
  pub default_via : via.default_via ≡ raw.default_via
  pub good : via.good ≡ raw.good
  pub shapes : OneForOne (IsShapeAt n no_shift) raw.shapes via.shapes

pub record IsPinAt (n : ℕ) (shift : PointModel) (raw : RawPinModel) (pin : MasterPinModel) : Type 0 where
  pub name : pin.name ≡ raw.name
  pub supply : pin.supply ≡ raw.supply
  pub shapes : OneForOne (IsShapeAt n shift) raw.shapes pin.shapes

-- the shapes are shifted by the origin in database units
pub record IsMasterAt (n : ℕ) (raw : RawMasterModel) (master : MasterModel) : Type 0 where
  pub name : master.name ≡ raw.name
  pub size : IsSizeAt n raw.size master.size
  pub y_symmetric : master.y_symmetric ≡ raw.y_symmetric
  pub site : master.site ≡ raw.site
  pub shift : PointModel
  pub origin : IsSpotAt n raw.origin shift
  pub pins : OneForOne (IsPinAt n shift) raw.pins master.pins
  pub obstructions : OneForOne (IsShapeAt n shift) raw.obstructions master.obstructions

-- a width of a rule may be odd
pub record IsRuleWidthAt (n : ℕ) (raw : RawRuleWidth) (scaled : RuleWidth) : Type 0 where
  pub layer : scaled.layer ≡ raw.layer
  pub width : IsLengthAt n raw.width scaled.width

pub record IsRuleAt (n : ℕ) (raw : RawRuleModel) (rule : RuleModel) : Type 0 where
  pub name : rule.name ≡ raw.name
  pub widths : OneForOne (IsRuleWidthAt n) raw.widths rule.widths

pub record IsLibraryAt (n : ℕ) (raw : RawLibraryModel) (library : LibraryModel) : Type 0 where
  pub units : library.units ≡ n
  pub layers : OneForOne (IsLayerAt n) raw.layers library.layers
  pub sites : OneForOne (IsSiteAt n) raw.sites library.sites
  pub vias : OneForOne (IsViaAt n) raw.vias library.vias
  pub masters : OneForOne (IsMasterAt n) raw.masters library.masters
  pub rules : OneForOne (IsRuleAt n) raw.rules library.rules
