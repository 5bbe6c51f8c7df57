-- All components are marked.
use Rattle.leg_place.proofs.PlaceFaults.{list_of_all}
use Rattle.leg_place.proofs.faults.place_faults.Goals as goal

pub returns : goal.returns
returns g c =
    let marks = c.in_ok-marks.marks.items in
    list_of_all c.args.design.now c.in_ok-faults.faults.items (rw (c.deref.ensures.value, c.in_ok-marks.ensures) at c.in_ok-faults.ensures)
