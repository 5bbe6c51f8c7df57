-- A mark tells whether the component stays.
use Rattle.std.proofs.Common.{◌≡◌, length, arith}
use Rattle.leg_legal.proofs.StayingFaults.{marks_none, marks_more}
use Rattle.leg_legal.proofs.staying.marks_of_staying.Goals as goal

pub loop-i-init : goal.loop-i-init
loop-i-init g c = marks_none c.args.design.now c.in_ok-marks.marks.items c.in_ok-marks.ensures.items

pub loop-i-preserved : goal.loop-i-preserved
loop-i-preserved g c =
    rw c.in_ok-push.ensures.items (marks_more c.args.design.now c.loop-i.i c.loop-i.marks.items c.is_movable.result c.is_movable.ensures c.loop-i.invariant)

pub returns : goal.returns
returns g c =
    let last : c.loop-i.i ≡ length c.args.design.now.components = rw (← c.components-i-end.ensures.is) (omega arith) in
    rw last at c.loop-i.invariant
