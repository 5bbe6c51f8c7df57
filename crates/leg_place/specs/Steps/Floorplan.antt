-- The sites and the placement blockages of a design.
use Rattle.std.specs.Prelude.{◌≡◌, List, Contains}
use Rattle.leg_geom.specs.Plane.{RectModel, ShareSquare}
use Rattle.leg_design_records.specs.Records.{DesignModel, placement_rects}
use Rattle.leg_place.specs.declared.floorplan.Floorplan.{Floorplan}
use Rattle.leg_place.specs.Steps.RowSpans.{AreRowSpans}

-- the sites of the design's rows, in order, and the rectangles of its placement blockages
pub record IsFloorplan {A : Type 0} (design : DesignModel) (floorplan : Floorplan A) : Type 0 where
  pub rows : AreRowSpans design.library design.rows floorplan.rows.items
  pub blockages : floorplan.blockages ≡ placement_rects design.blockages

-- one of the rectangles shares a unit square with the box
pub record IsMet (rects : List RectModel) (box : RectModel) : Type 0 where
  pub rect : RectModel
  pub has : Contains rects rect
  pub shared : ShareSquare box rect
