-- The box in which a component lies: that of its macro, oriented and placed (LEF/DEF 5.8, "Component orientation").
use Rattle.std.specs.Prelude.{◌≡◌, ℕ, pos, Option, Some, slice_get}
use Rattle.leg_lex.specs.Words.{◌>>=◌}
use Rattle.leg_geom.specs.Plane.{RectModel}
use Rattle.leg_geom.specs.Orientation.{placed_rect}
use Rattle.leg_geom.specs.declared.place.Place.{Place}
use Rattle.leg_lib_records.specs.Measure.{ExtentModel}
use Rattle.leg_lib_records.specs.Records.{LibraryModel}
use Rattle.leg_design_records.specs.Records.{DesignModel}
use Rattle.leg_design_records.specs.declared.records.Component.{Component}

-- the box of a macro of this size, as it is drawn
abbrev pub box_of_size : ExtentModel → RectModel
box_of_size size = record { x1 = pos 0; y1 = pos 0; x2 = size.width; y2 = size.height }

-- the box of a macro of this size at a place
abbrev pub placed_box : ExtentModel → Place → RectModel
placed_box size place = placed_rect place.at place.orient size.width size.height (box_of_size size)

-- the box of a component that has a place
abbrev pub box_of : LibraryModel → Component → Option RectModel
box_of library component = do
  master ← slice_get library.masters component.master
  place ← component.place
  Some (placed_box master.size place)

-- component c of the design lies in this box
pub record HasBox (design : DesignModel) (c : ℕ) (box : RectModel) : Type 0 where
  pub component : Component
  pub there : slice_get design.components c ≡ Some component
  pub placed : box_of design.library component ≡ Some box
