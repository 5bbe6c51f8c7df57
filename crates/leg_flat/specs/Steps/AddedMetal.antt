-- Shapes that are added after others, and what is known of metal that is drawn (lefdef's own rules).
use Rattle.std.specs.Prelude.{◌≡◌, ℕ, List, ◌++◌, All, Option, None, Some, slice_get}
use Rattle.leg_lex.specs.Words.{◌>>=◌}
use Rattle.leg_geom.specs.declared.place.Place.{Place}
use Rattle.leg_lib_records.specs.declared.records.Shape as library
use Rattle.leg_lib_records.specs.Scale.{OneForOne}
use Rattle.leg_lib_records.specs.Records.{MasterModel}
use Rattle.leg_design_records.specs.declared.records.Wire.{Wire}
use Rattle.leg_design_records.specs.declared.records.Wire.TheVariants.{Segment, ViaAt, Patch}
use Rattle.leg_design_records.specs.Records.{DesignModel, PortModel}
use Rattle.leg_design_records.specs.WellFormedParts.{IsPosition}
use Rattle.leg_rules.specs.declared.shape.Shape.{Shape}
use Rattle.leg_rules.specs.Metal.Metal.{Metal}
use Rattle.leg_rules.specs.Metal.Flat.{IsShapeOf}
use Rattle.leg_flat.specs.Steps.Bounds.{IsLineWithin, IsDrawnWithin}

-- shapes of this metal, in order, come after those that were there before
pub record AddsMetal (metal : List Metal) (before after : List Shape) : Type 0 where
  pub more : List Shape
  pub is : after ≡ before ++ more
  pub each : OneForOne IsShapeOf metal more

-- rectangles that a place, or a point, can move
abbrev pub AreDrawnWithin : List library.Shape → Type 0
AreDrawnWithin shapes = All (λ shape. IsDrawnWithin shape.rect) shapes

-- the macro of a component
abbrev pub master_of : DesignModel → ℕ → Option MasterModel
master_of design c = slice_get design.components c >>= λ component. slice_get design.library.masters component.master

-- a port of the design that can be drawn, if it has a place
abbrev pub IsPlaceWithin : Option Place → Type 0
IsPlaceWithin None = Unit {0}
IsPlaceWithin (Some place) = IsPosition place.at

pub record IsPortWithin (port : PortModel) : Type 0 where
  pub place : IsPlaceWithin port.place
  pub shapes : AreDrawnWithin port.shapes

-- a wire that can be drawn
abbrev pub IsWireWithin : Wire → Type 0
IsWireWithin (Segment layer from to width ext_from ext_to) = IsLineWithin from to width ext_from ext_to
IsWireWithin (ViaAt number at) = IsPosition at
IsWireWithin (Patch layer at rect) = IsPosition at × IsDrawnWithin rect
