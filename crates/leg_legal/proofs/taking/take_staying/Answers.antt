-- At the end they all are.
use Rattle.std.proofs.Common.{◌≡◌, length, arith}
use Rattle.leg_legal.proofs.RunBoxes.{staying_none}
use Rattle.leg_legal.proofs.taking.take_staying.Goals as goal

pub loop-i-init : goal.loop-i-init
loop-i-init g c = staying_none c.args.design.now c.args.free.now c.requires

pub returns : goal.returns
returns g c =
    let last : c.loop-i.i ≡ length c.args.design.now.components = rw (← c.components-i-end.ensures.is) (omega arith) in
    rw (← last) c.loop-i.invariant
