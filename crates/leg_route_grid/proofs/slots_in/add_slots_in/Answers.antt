use Rattle.std.proofs.Common.{◌<ℤ◌, AllPairs, FitsSigned, w64, arith}
use Rattle.std.proofs.lemmas.Int.{to_z-of_z, fits_signed_from_abs}
use Rattle.std.proofs.lemmas.Option.{slice_get_within}
use Rattle.leg_route_grid.specs.Steps.NodesInRect.{LiesInRect}
use Rattle.leg_route_grid.specs.Steps.Grid.{IsNumberOf}
use Rattle.leg_route_grid.specs.Steps.NodeNumbers.{IsOneOf}
use Rattle.leg_geom.specs.Line.{ArePlaces}
use Rattle.leg_route_grid.specs.Steps.SlotRanges.{IsRoutingLayerAt, HaveGot}
use Rattle.leg_route_grid.proofs.SlotRanges.{none_on_layer, all_in_rect, all_below}
use Rattle.leg_route_grid.proofs.SlotBoxes.{new_boxes, still_boxed}
use Rattle.leg_route_grid.proofs.slots_in.add_slots_in.Given.{Over}
use Rattle.leg_route_grid.proofs.slots_in.add_slots_in.Goals as goal

pub returns-in_default-clause-added : goal.returns-in_default-clause-added
returns-in_default-clause-added g c =
    none_on_layer c.args.grid.now c.layers.ensures.proper c.args.layer c.args.rect.now c.args.found.now.slots.items
    (rw c.layers.ensures.is at c.in_default.ensures)

pub add_rows_once-requires-clause-layer : goal.add_rows_once-requires-clause-layer
add_rows_once-requires-clause-layer g c =
    let on : IsRoutingLayerAt c.args.grid.now.layers c.args.layer c.in-Some.k = rw c.layers.ensures.is at c.in-Some.ensures in
    slice_get_within c.args.grid.now.layers c.in-Some.k on.layer on.there

-- the routing layer, and the places of its columns and rows
on : (g : Over) (c : goal.In_ok-add_rows_once g) → IsRoutingLayerAt c.args.grid.now.layers c.args.layer c.in-Some.k
on g c = rw c.layers.ensures.is at c.in-Some.ensures

columns : (g : Over) (c : goal.In_ok-add_rows_once g)
    → ArePlaces c.args.grid.now.xs c.args.rect.now.x1 c.args.rect.now.x2 c.places_within-columns.result.0 c.places_within-columns.result.1
columns g c =
    let rect = c.args.rect.now in
    let is_rect = c.x1.ensures.proper in
    let x1_in = is_rect.x1 in
    let x2_in = is_rect.x2 in
    let x1_fits : FitsSigned w64 rect.x1 = fits_signed_from_abs w64 rect.x1 (omega (arith, x1_in)) in
    let x2_fits : FitsSigned w64 rect.x2 = fits_signed_from_abs w64 rect.x2 (omega (arith, x2_in)) in
    let rising : AllPairs (λ a b. a <ℤ b) c.xs.result.now = rw c.xs.ensures.is c.xs.ensures.proper.xs_are.increasing in
    let places = c.places_within-columns.ensures.places rising in
    rw (c.xs.ensures.is, c.x1.ensures.is, c.x2.ensures.is, to_z-of_z w64 rect.x1 x1_fits, to_z-of_z w64 rect.x2 x2_fits) at places

rows : (g : Over) (c : goal.In_ok-add_rows_once g)
    → ArePlaces c.args.grid.now.ys c.args.rect.now.y1 c.args.rect.now.y2 c.places_within-rows.result.0 c.places_within-rows.result.1
rows g c =
    let rect = c.args.rect.now in
    let is_rect = c.x1.ensures.proper in
    let y1_in = is_rect.y1 in
    let y2_in = is_rect.y2 in
    let y1_fits : FitsSigned w64 rect.y1 = fits_signed_from_abs w64 rect.y1 (omega (arith, y1_in)) in
    let y2_fits : FitsSigned w64 rect.y2 = fits_signed_from_abs w64 rect.y2 (omega (arith, y2_in)) in
    let rising : AllPairs (λ a b. a <ℤ b) c.ys.result.now = rw c.ys.ensures.is c.ys.ensures.proper.ys_are.increasing in
    let places = c.places_within-rows.ensures.places rising in
    rw (c.ys.ensures.is, c.y1.ensures.is, c.y2.ensures.is, to_z-of_z w64 rect.y1 y1_fits, to_z-of_z w64 rect.y2 y2_fits) at places

-- the numbers have got those of the slots in the rectangle
got : (g : Over) (c : goal.In_ok-add_rows_once g) → HaveGot
    (IsOneOf (IsNumberOf c.args.grid.now) (LiesInRect c.args.layer c.args.rect.now)) c.args.found.now.slots.items c.add_rows_once.new.slots.items
got g c =
    all_in_rect c.args.grid.now c.layers.ensures.proper c.args.layer c.args.rect.now c.in-Some.k c.places_within-columns.result.0
    c.places_within-columns.result.1 c.places_within-rows.result.0 c.places_within-rows.result.1
    (on g c) (columns g c) (rows g c) c.args.found.now.slots.items c.add_rows_once.new.slots.items c.in_ok-add_rows_once.ensures

pub returns-clause-added : goal.returns-clause-added
returns-clause-added g c = got g c

pub returns-clause-boxes : goal.returns-clause-boxes
returns-clause-boxes g c =
    new_boxes c.args.grid.now c.layers.ensures.proper c.args.layer c.args.rect.now c.in-Some.k c.places_within-columns.result.0
    c.places_within-columns.result.1 c.places_within-rows.result.0 c.places_within-rows.result.1
    (on g c) (columns g c) (rows g c) c.args.found.now.boxes.items c.add_box.new.boxes.items c.in_ok-add_box.ensures

pub returns-clause-within : goal.returns-clause-within
returns-clause-within g c =
    all_below c.args.grid.now (LiesInRect c.args.layer c.args.rect.now) c.args.found.now.slots.items c.add_rows_once.new.slots.items (got g c)

pub returns-clause-boxed : goal.returns-clause-boxed
returns-clause-boxed g c boxed =
    still_boxed c.args.grid.now c.layers.ensures.proper c.args.layer c.args.rect.now c.in-Some.k c.places_within-columns.result.0
    c.places_within-columns.result.1 c.places_within-rows.result.0 c.places_within-rows.result.1
    (on g c) (columns g c) (rows g c) c.args.found.now.boxes.items c.add_box.new.boxes.items c.in_ok-add_box.ensures c.args.found.now.slots.items
    c.add_rows_once.new.slots.items (got g c) boxed

pub returns-clause-after : goal.returns-clause-after
returns-clause-after g c = (c.in_ok-add_box.ensures.more, c.in_ok-add_box.ensures.are)
