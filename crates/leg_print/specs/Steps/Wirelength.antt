-- What the code knows on its way to a wirelength. No meaning of a public call speaks of it.
use Rattle.std.specs.Prelude.{◌≤ℤ◌, List, Contains, Option, None, Some}
use Rattle.std.specs.Int.{int_min, int_max}
use Rattle.leg_geom.specs.Plane.{PointModel, RectModel, IsCoordinate}
use Rattle.leg_geom.specs.declared.place.Place.{Place}
use Rattle.leg_lib_records.specs.Measure.{ExtentModel}
use Rattle.leg_lib_records.specs.declared.records.Shape.{Shape}
use Rattle.leg_design_records.specs.Records.{PortModel}
use Rattle.leg_rules.specs.Metal.Outline.{HasPointOf}
use Rattle.leg_rules.specs.Metal.Outline.Outline.{Drawn}
use Rattle.leg_rules.specs.Metal.Metal.{OnLayer, port_outlines}

-- a box that may be as thin as a line or a point
pub record IsBox (box : RectModel) : Type 0 where
  pub x1 : IsCoordinate box.x1
  pub y1 : IsCoordinate box.y1
  pub x2 : IsCoordinate box.x2
  pub y2 : IsCoordinate box.y2
  pub wide : box.x1 ≤ℤ box.x2
  pub high : box.y1 ≤ℤ box.y2

-- the box of one point
abbrev pub point_box : PointModel → RectModel
point_box p = record { x1 = p.x; y1 = p.y; x2 = p.x; y2 = p.y }

-- the least box that holds two
abbrev pub joined : RectModel → RectModel → RectModel
joined a b = record { x1 = int_min a.x1 b.x1; y1 = int_min a.y1 b.y1; x2 = int_max a.x2 b.x2; y2 = int_max a.y2 b.y2 }

-- the same of boxes that there may be
abbrev pub joined_if_any : Option RectModel → Option RectModel → Option RectModel
joined_if_any None b = b
joined_if_any (Some a) None = Some a
joined_if_any (Some a) (Some b) = Some (joined a b)

-- the point is one of the points of one of these
pub record IsOfSome (X : Type 0) (HasIt : X → PointModel → Type 0) (xs : List X) (p : PointModel) : Type 0 where
  pub one : X
  pub there : Contains xs one
  pub has : HasIt one p

-- the point is one of this shape of a box, which is at a place
abbrev pub IsOfShape : Place → ExtentModel → Shape → PointModel → Type 0
IsOfShape place size shape p = HasPointOf (Drawn place size shape.rect) p

-- the point is one of this metal
abbrev pub IsPointOfMetal : OnLayer → PointModel → Type 0
IsPointOfMetal metal p = HasPointOf metal.outline p

-- the point is one of the shapes of a port
abbrev pub IsOfPort : PortModel → PointModel → Type 0
IsOfPort port p = IsOfSome OnLayer IsPointOfMetal (port_outlines port.place port.shapes) p
