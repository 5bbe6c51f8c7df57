-- A placement blockage adds its rectangles, and one of a layer none.
use Rattle.std.proofs.Common.{◌≡◌, ◌++◌, refl, ap, arith}
use Rattle.std.proofs.lemmas.List.{take_all, append-nil}
use Rattle.leg_design_records.specs.Records.{placement_rects}
use Rattle.leg_place.proofs.BlockageRects.{rects_of_placement, rects_of_layer, rects_more, rects_few}
use Rattle.leg_place.proofs.placement_blockages.placement_rects.Goals as goal
use Rattle.leg_place.proofs.placement_blockages.placement_rects.Goals.{in-Placement+in_ok-extend_from_slice, in_default}

pub loop-blockage-preserved : goal.loop-blockage-preserved
loop-blockage-preserved g c =
    let i = c.loop-blockage.blockage-index in
    let blockages = c.blockages-blockage-items.result.now in
    let more = rects_more blockages i c.blockage-item.result (omega (arith, c.loop-blockage-test.true)) c.blockage-item.is in
    elim c.match-blockage.branch [
      | in-Placement+in_ok-extend_from_slice w ↦
          let added = rw w.as_slice.ensures at w.in_ok-extend_from_slice.ensures.items in
          let here = rects_of_placement c.blockage-item.result w.in-Placement.more w.in-Placement.is in
          rw (w.rects-is, added, more, here) (ap (λ front. front ++ w.in-Placement.more) c.loop-blockage.invariant)
      | in_default w ↦
          let here = rects_of_layer c.blockage-item.result w.in_default.field-0 w.in_default.field-1 w.in_default.is in
          rw (w.rects-is, more, here, append-nil) c.loop-blockage.invariant
    ]

pub returns-clause-few : goal.returns-clause-few
returns-clause-few g c =
    let design = c.args.design.now in
    let blockages = c.blockages-blockage-items.result.now in
    let all = take_all c.loop-blockage.blockage-index blockages (omega (arith, c.loop-blockage-test.false)) in
    let is : c.loop-blockage.rects.items ≡ placement_rects design.blockages =
    rw (c.loop-blockage.invariant, all, c.blockages-blockage-items.ensures.is) refl in
    rw is (omega (arith, rects_few design.blockages, c.blockages-blockage-items.ensures.proper.blockages.few_rects))
