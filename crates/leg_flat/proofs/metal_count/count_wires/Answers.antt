use Rattle.std.proofs.Common.{refl, sym, ◌∙◌}
use Rattle.leg_flat.proofs.MetalWalks.{wire_metal, wires_walk}
use Rattle.leg_flat.proofs.Counts.{belonging_length, counts_more, counts_all}
use Rattle.leg_flat.proofs.metal_count.count_wires.Goals as goal

pub loop-wire-preserved : goal.loop-wire-preserved
loop-wire-preserved g c = λ n piece.
    counts_more (wire_metal c.args.design.now n) piece c.args.wires.now c.counted-count.result c.loop-wire.wire-index _ c.wire-item.result c.loop-wire.count _
    _ refl c.loop-wire-test.true c.wire-item.is (c.loop-wire.invariant n piece) c.counted-count-in-loop-wire.ensures
    (c.wire_shapes.ensures ∙ sym (belonging_length _ _))

pub returns : goal.returns
returns g c = λ n piece.
    counts_all (wire_metal c.args.design.now n) piece c.args.wires.now c.counted-count.result c.loop-wire.wire-index c.args.before c.loop-wire.count _
    c.loop-wire-test.false c.counted-count.ensures (wires_walk _ _ _ _) (c.loop-wire.invariant n piece)
