-- A marked component with a place has one more box, and any other none.
use Rattle.std.proofs.Common.{arith}
use Rattle.std.proofs.lemmas.List.{length_push}
use Rattle.leg_place.proofs.Boxes.{boxes_more, boxes_skip}
use Rattle.leg_place.proofs.placed_box.placed_boxes.Goals as goal
use Rattle.leg_place.proofs.placed_box.placed_boxes.Goals.{in-Some+in_ok-push, in_default}

pub loop-i-preserved : goal.loop-i-preserved
loop-i-preserved g c =
    let design = c.args.design.now in
    let boxes = c.loop-i.boxes.items in
    elim c.match-marked_box.branch [
      | in-Some+in_ok-push w ↦
          rw (w.boxes-is, w.in_ok-push.ensures.items) (
            boxes_more design c.args.marks.now c.loop-i.i w.in-Some.rect boxes w.in-Some.ensures c.loop-i.invariant.0,
            omega (arith, length_push boxes (record { component = c.loop-i.i; rect = w.in-Some.rect })),
          )
      | in_default w ↦ rw w.boxes-is (boxes_skip design c.args.marks.now c.loop-i.i boxes w.in_default.ensures c.loop-i.invariant.0, omega arith)
    ]
