-- Vias in ports: their rectangles lie on layers with metal, and within the limit of numbers.
use Rattle.std.proofs.Common.{ℤ, ◌+ℤ◌, List, All, codes}
use Rattle.leg_lex.specs.Number.{IsNumber}
use Rattle.leg_lex.specs.Words.{Words, keyword_at, nothing_at}
use Rattle.leg_lex.proofs.GivesAll.{over_gives}
use Rattle.leg_geom.specs.Plane.{PointModel, RectModel}
use Rattle.leg_lib_records.specs.declared.records.Shape.{Shape}
use Rattle.leg_lib_records.specs.Records.{LibraryModel}
use Rattle.leg_design_records.specs.WellFormedParts.{IsPosition, IsArea, IsMetalShape}
use Rattle.leg_grammar.specs.Def.Guard.{when, is_within}
use Rattle.leg_grammar.specs.Def.NetScope.{NetScopeModel}
use Rattle.leg_grammar.specs.Def.Placement.{spot_at}
use Rattle.leg_grammar.specs.Profiles.{is_wide}
use Rattle.leg_grammar.specs.Mask.{past_mask}
use Rattle.leg_grammar.specs.Def.PortVia.{number_from, corner_from, rect_from, via_shape, good_via_at, with_via}
use Rattle.leg_design_common.proofs.Gives.{Gives, gives_some, gives_bind, gives_skip, when_gives}
use Rattle.leg_design_common.proofs.ReadPlacement.{between_gives}
use Rattle.leg_design_floorplan.proofs.ReadRows.{within_is}
use Rattle.leg_design_floorplan.proofs.MetalShapes.{with_rect_metal}

number_gives : (start z : ℤ) → Gives IsNumber (number_from start z)
unfolding number_from
number_gives start z =
    gives_bind (when_gives (is_within (start +ℤ z))) (λ _ within.
    gives_some _ (within_is (start +ℤ z) within))

corner_gives : (at : PointModel) (x y : ℤ) → Gives IsPosition (corner_from at x y)
unfolding corner_from
corner_gives at x y =
    gives_bind (number_gives at.x x) (λ from_x wide.
    gives_bind (number_gives at.y y) (λ from_y high.
    gives_some _ (record { x = wide; y = high })))

rect_gives_from : (at : PointModel) (rect : RectModel) → Gives IsArea (rect_from at rect)
unfolding rect_from
rect_gives_from at rect =
    gives_bind (corner_gives at rect.x1 rect.y1) (λ lower_left low.
    gives_bind (corner_gives at rect.x2 rect.y2) (λ upper_right high.
    between_gives lower_left upper_right low high))

pub shape_gives : (library : LibraryModel) (at : PointModel) (shapes : List Shape) (shape : Shape) → All (IsMetalShape library) shapes
    → Gives (All (IsMetalShape library)) (via_shape library at shapes shape)
unfolding via_shape
shape_gives library at shapes shape metal =
    gives_bind (rect_gives_from at shape.rect) (λ rect area.
    gives_some _ (with_rect_metal library shape.layer rect shapes area metal))

pub with_via_gives : (scope : NetScopeModel) (shapes : List Shape) (clause : Words) → All (IsMetalShape scope.library) shapes
    → Gives (All (IsMetalShape scope.library)) (with_via scope shapes clause)
unfolding with_via
with_via_gives scope shapes clause metal =
    gives_skip (when (is_wide scope.profile)) (λ wide.
    gives_skip (keyword_at (codes "VIA") clause) (λ start.
    gives_skip (good_via_at scope start.1) (λ via.
    gives_skip (past_mask scope.profile via.1) (λ mask.
    gives_skip (spot_at mask.1) (λ at.
    gives_skip (nothing_at at.1) (λ end.
    over_gives (All (IsMetalShape scope.library)) (via_shape scope.library at.0) (shape_gives scope.library at.0) shapes via.0.shapes metal))))))
