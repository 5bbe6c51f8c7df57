use Rattle.std.proofs.Common.{◌≡◌, length, sym, ap, ◌∙◌, zero-add}
use Rattle.std.proofs.lemmas.List.{length-map}
use Rattle.leg_lemmas.proofs.Places.{all_at}
use Rattle.leg_design_records.specs.WellFormedParts.{IsBlockage}
use Rattle.leg_design_records.specs.Records.{blockage_said}
use Rattle.leg_flat.proofs.MoreMetal.{adds_at, adds_all}
use Rattle.leg_flat.proofs.MetalWalks.{one_blockage, blockages_walk}
use Rattle.leg_flat.proofs.MetalSizes.{read_said}
use Rattle.leg_flat.proofs.metal.add_blockages.Goals as goal

pub add_blockage-requires : goal.add_blockage-requires
add_blockage-requires g c =
    let design = c.args.design.now in
    let blockage = c.blockage-item.result in
    let known = c.blockages-blockage-items.ensures in
    let items = c.blockages-blockage-items.result.now in
    let k = c.loop-k.k in
    let there = read_said blockage_said items design.blockages k blockage known.is c.loop-k-test.true c.blockage-item.is in
    (all_at (IsBlockage design.library) design.blockages k (blockage_said blockage) known.proper.blockages.each there).rects

pub loop-k-preserved : goal.loop-k-preserved
loop-k-preserved g c =
    let design = c.args.design.now in
    let blockage = c.blockage-item.result in
    let known = c.blockages-blockage-items.ensures in
    let items = c.blockages-blockage-items.result.now in
    let k = c.loop-k.k in
    let there = read_said blockage_said items design.blockages k blockage known.is c.loop-k-test.true c.blockage-item.is in
    adds_at one_blockage 0 design.blockages c.args.shapes.now.items k k (blockage_said blockage) c.loop-k.shapes.items _
    (sym (zero-add _)) there c.loop-k.invariant c.in_ok-add_blockage.ensures

pub returns : goal.returns
returns g c =
    let blockages = c.args.design.now.blockages in
    let items = c.blockages-blockage-items.result.now in
    let many : length blockages ≡ length items = ap length (sym c.blockages-blockage-items.ensures.is) ∙ length-map items blockage_said in
    adds_all one_blockage 0 blockages c.args.shapes.now.items c.loop-k.k c.loop-k.shapes.items _
    (rw many c.loop-k-test.false) (blockages_walk _ _) c.loop-k.invariant
