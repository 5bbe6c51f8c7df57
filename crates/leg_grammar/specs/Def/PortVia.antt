-- Vias in ports of pins, in the wide profile (LEF/DEF 5.8, "Pins"; that a via is good, and where its rectangles may lie, is lefdef's own rule).
use Rattle.std.specs.Prelude.{ℤ, ◌+ℤ◌, List, Option, Some, codes}
use Rattle.leg_lex.specs.Words.{Words, ◌>>=◌, keyword_at, name_at, nothing_at}
use Rattle.leg_lex.specs.Until.{over}
use Rattle.leg_geom.specs.Plane.{PointModel, RectModel}
use Rattle.leg_lib_records.specs.declared.records.Shape.{Shape}
use Rattle.leg_lib_records.specs.Measure.{rect_between}
use Rattle.leg_lib_records.specs.Records.{LibraryModel, ViaModel}
use Rattle.leg_grammar.specs.Def.Guard.{when, is_within}
use Rattle.leg_grammar.specs.Def.NetScope.{NetScopeModel, via_named, via_numbered}
use Rattle.leg_grammar.specs.Def.Placement.{spot_at}
use Rattle.leg_grammar.specs.Def.Layers.{with_rect}
use Rattle.leg_grammar.specs.Profiles.{is_wide}
use Rattle.leg_grammar.specs.Mask.{past_mask}

-- a number, given from a start, where it is within the limit of numbers then
unfoldable pub number_from : ℤ → ℤ → Option ℤ
number_from start z = do
  within ← when (is_within (start +ℤ z))
  Some (start +ℤ z)

-- the corner x y, given from a point
unfoldable pub corner_from : PointModel → ℤ → ℤ → Option PointModel
corner_from at x y = do
  from_x ← number_from at.x x
  from_y ← number_from at.y y
  Some (record { x = from_x; y = from_y })

-- a rectangle, given from a point
unfoldable pub rect_from : PointModel → RectModel → Option RectModel
rect_from at rect = do
  lower_left ← corner_from at rect.x1 rect.y1
  upper_right ← corner_from at rect.x2 rect.y2
  rect_between lower_left upper_right

-- one more rectangle of a via that lies at a point
unfoldable pub via_shape : LibraryModel → PointModel → List Shape → Shape → Option (List Shape)
via_shape library at shapes shape = do
  rect ← rect_from at shape.rect
  Some (with_rect library shape.layer rect shapes)

-- the name of a good via
unfoldable pub good_via_at : NetScopeModel → Words → Option (ViaModel × Words)
good_via_at scope words = do
  name ← name_at words
  number ← via_named scope name.0
  via ← via_numbered scope number
  good ← when via.good
  Some (via, name.1)

-- the shapes of a port, and with VIA NAME mask ( x y ) those of the via at the point
unfoldable pub with_via : NetScopeModel → List Shape → Words → Option (List Shape)
with_via scope shapes clause = do
  wide ← when (is_wide scope.profile)
  start ← keyword_at (codes "VIA") clause
  via ← good_via_at scope start.1
  mask ← past_mask scope.profile via.1
  at ← spot_at mask.1
  end ← nothing_at at.1
  over (via_shape scope.library at.0) shapes via.0.shapes
