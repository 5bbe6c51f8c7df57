use Rattle.std.proofs.Common.{◌≡◌, length, sym, ap, ◌∙◌, zero-add}
use Rattle.std.proofs.lemmas.List.{length-map}
use Rattle.leg_design_records.specs.Records.{blockage_said}
use Rattle.leg_flat.proofs.MetalWalks.{one_blockage, blockages_walk}
use Rattle.leg_flat.proofs.MetalSizes.{read_said}
use Rattle.leg_flat.proofs.Counts.{counts_at, counts_all}
use Rattle.leg_flat.proofs.metal_count.count_blockages.Goals as goal

pub loop-blockage-preserved : goal.loop-blockage-preserved
loop-blockage-preserved g c =
    let blockages = c.args.design.now.blockages in
    let blockage = c.blockage-item.result in
    let items = c.blockages-blockage-items.result.now in
    let is = c.blockages-blockage-items.ensures.is in
    let k = c.loop-blockage.blockage-index in
    let there = read_said blockage_said items blockages k blockage is c.loop-blockage-test.true c.blockage-item.is in
    counts_at one_blockage 0 blockages c.counted-count.result k k (blockage_said blockage) c.loop-blockage.count _ _
    (sym (zero-add _)) there c.loop-blockage.invariant c.counted-count-in-loop-blockage.ensures (c.blockage_shapes.ensures k)

pub returns : goal.returns
returns g c =
    let blockages = c.args.design.now.blockages in
    let items = c.blockages-blockage-items.result.now in
    let many : length blockages ≡ length items = ap length (sym c.blockages-blockage-items.ensures.is) ∙ length-map items blockage_said in
    counts_all one_blockage 0 blockages c.counted-count.result c.loop-blockage.blockage-index c.args.before c.loop-blockage.count _
    (rw many c.loop-blockage-test.false) c.counted-count.ensures (blockages_walk _ _) c.loop-blockage.invariant
