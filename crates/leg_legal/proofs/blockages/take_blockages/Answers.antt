-- A placement blockage takes its rectangles away, and one of a layer nothing.
use Rattle.std.proofs.Common.{◌++◌, map, take, arith}
use Rattle.std.proofs.lemmas.List.{append-nil, take_all}
use Rattle.leg_design_records.specs.Records.{blockage_said, placement_rects}
use Rattle.leg_place.proofs.BlockageRects.{rects_of_placement, rects_of_layer, rects_more}
use Rattle.leg_legal.specs.Steps.Boxes.{KnowBlockages}
use Rattle.leg_legal.proofs.RunBoxes.{blockages_none, blockages_more, blockages_all}
use Rattle.leg_legal.proofs.blockages.take_blockages.Goals as goal
use Rattle.leg_legal.proofs.blockages.take_blockages.Goals.{in-Placement+in_ok-take_rects, in_default}

pub take_rects-requires : goal.take_rects-requires
take_rects-requires g c =
    let before = placement_rects (map blockage_said (take c.loop-blockage.blockage-index c.blockages-blockage-items.result.now)) in
    (c.loop-blockage.invariant.boxes ++ before, c.loop-blockage.invariant.known)

pub loop-blockage-init : goal.loop-blockage-init
loop-blockage-init g c = blockages_none c.args.design.now c.args.free.now c.requires

pub loop-blockage-preserved : goal.loop-blockage-preserved
loop-blockage-preserved g c =
    let design = c.args.design.now in
    let i = c.loop-blockage.blockage-index in
    let blockages = c.blockages-blockage-items.result.now in
    let before = placement_rects (map blockage_said (take i blockages)) in
    let k = c.loop-blockage.invariant in
    let more = rects_more blockages i c.blockage-item.result (omega (arith, c.loop-blockage-test.true)) c.blockage-item.is in
    elim c.match-blockage.branch [
      | in-Placement+in_ok-take_rects w ↦
          let known = rw w.as_slice.ensures at (w.in_ok-take_rects.ensures (k.boxes ++ before) k.known) in
          let here = rects_of_placement c.blockage-item.result w.in-Placement.rects w.in-Placement.is in
          rw (w.free-is, more, here) (blockages_more design c.loop-blockage.free w.take_rects.new.free before w.in-Placement.rects k known)
      | in_default w ↦
          let here = rects_of_layer c.blockage-item.result w.in_default.field-0 w.in_default.field-1 w.in_default.is in
          rw (w.free-is, more, here, append-nil) k
    ]

pub returns : goal.returns
returns g c =
    let design = c.args.design.now in
    let blockages = c.blockages-blockage-items.result.now in
    let all = take_all c.loop-blockage.blockage-index blockages (omega (arith, c.loop-blockage-test.false)) in
    let done : KnowBlockages design (placement_rects design.blockages) c.loop-blockage.free =
    rw (all, c.blockages-blockage-items.ensures.is) at c.loop-blockage.invariant in
    blockages_all design c.loop-blockage.free done
