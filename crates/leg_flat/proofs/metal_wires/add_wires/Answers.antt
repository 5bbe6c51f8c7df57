use Rattle.std.proofs.Common.{refl}
use Rattle.leg_flat.proofs.MoreMetal.{adds_more, adds_all}
use Rattle.leg_flat.proofs.MetalWalks.{wire_metal, wires_walk}
use Rattle.leg_flat.proofs.metal_wires.add_wires.Goals as goal

pub loop-i-preserved : goal.loop-i-preserved
loop-i-preserved g c =
    adds_more (wire_metal c.args.design.now c.args.net) c.args.first c.args.wires.now c.args.shapes.now.items c.loop-i.i _ c.index-wires-i.result
    c.loop-i.shapes.items _ refl c.loop-i-test.true c.index-wires-i.is c.loop-i.invariant c.in_ok-add_wire.ensures

pub returns : goal.returns
returns g c =
    adds_all (wire_metal c.args.design.now c.args.net) c.args.first c.args.wires.now c.args.shapes.now.items c.loop-i.i c.loop-i.shapes.items _
    c.loop-i-test.false (wires_walk _ _ _ _) c.loop-i.invariant
