-- What holds among the components that stay concerns only these.
use Rattle.leg_legal.proofs.StayingFaults.{staying_list}
use Rattle.leg_legal.proofs.staying.staying_faults.Goals as goal

pub returns : goal.returns
returns g c =
    staying_list c.args.design.now c.in_ok-marks.marks.items c.in_ok-marks.ensures c.in_ok-faults.faults.items
    (rw c.deref.ensures.value at c.in_ok-faults.ensures)
