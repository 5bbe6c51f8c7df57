-- Each pair of boxes that share a unit square is one more overlap.
use Rattle.std.proofs.Common.{arith}
use Rattle.std.proofs.lemmas.List.{take_all}
use Rattle.leg_sweep.specs.Pairs.{ArePairs}
use Rattle.leg_place.proofs.Overlaps.{Share, overlaps_more, listing_Overlap_end}
use Rattle.leg_place.proofs.overlap.push_overlaps.Goals as goal

pub loop-a-preserved : goal.loop-a-preserved
loop-a-preserved g c =
    let boxes = c.in_ok-boxes.boxes.items in
    let are : ArePairs Share boxes c.deref-a-items.result.now = rw (c.deref-a-items.ensures.value, ← c.deref.ensures.value) c.in_ok-overlaps.ensures.pairs in
    rw c.in_ok-push.ensures.items
    (overlaps_more boxes c.deref-a-items.result.now c.loop-a.a-index c.index.result.now c.index-in-loop-a.result.now
    c.args.found.now.items c.loop-a.found.items are.each (omega arith) c.index.ensures c.index-in-loop-a.ensures c.loop-a.invariant)

pub returns : goal.returns
returns g c =
    let boxes = c.in_ok-boxes.boxes.items in
    let pairs = c.deref-a-items.result.now in
    let are : ArePairs Share boxes pairs = rw (c.deref-a-items.ensures.value, ← c.deref.ensures.value) c.in_ok-overlaps.ensures.pairs in
    let all = take_all c.loop-a.a-index pairs (omega arith) in
    rw (c.loop-a.invariant, all)
    (listing_Overlap_end c.args.design.now c.args.marks.now c.args.found.now.items c.requires boxes c.in_ok-boxes.ensures.boxes pairs are)
