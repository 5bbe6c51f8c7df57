use Rattle.std.proofs.Common.{Some, w64}
use Rattle.std.proofs.lemmas.Int.{to_z-of_z}
use Rattle.leg_lib_records.specs.declared.records.Shape.{Shape}
use Rattle.leg_print.specs.Steps.Wirelength.{IsOfShape}
use Rattle.leg_print.proofs.PointsOfSome.{one_more, all_taken}
use Rattle.leg_print.proofs.wirelength.drawn_box.Goals as goal

pub loop-shape-preserved : goal.loop-shape-preserved
loop-shape-preserved c =
    let width = to_z-of_z w64 c.args.width c.ranges.width in
    let height = to_z-of_z w64 c.args.height c.ranges.height in
    let before = rw (width, height) at c.loop-shape.invariant in
    let one = rw (width, height) at c.shape_box.ensures in
    rw (width, height, c.joined-bounds.ensures)
    (one_more Shape (IsOfShape c.args.place.now (record { width = c.args.width; height = c.args.height })) c.args.shapes.now c.loop-shape.shape-index
    c.shape-item.result c.loop-shape.bounds (Some c.shape_box.result) c.loop-shape-test.true c.shape-item.is before one)

pub returns : goal.returns
returns c =
    let before = rw (to_z-of_z w64 c.args.width c.ranges.width, to_z-of_z w64 c.args.height c.ranges.height) at c.loop-shape.invariant in
    all_taken Shape (IsOfShape c.args.place.now (record { width = c.args.width; height = c.args.height })) c.args.shapes.now c.loop-shape.shape-index
    c.loop-shape.bounds c.loop-shape-test.false before
