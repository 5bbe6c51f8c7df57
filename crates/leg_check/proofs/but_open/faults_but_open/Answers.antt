use Rattle.leg_check.proofs.ListsOfKinds.{without_open}
use Rattle.leg_check.proofs.but_open.faults_but_open.Goals as goal

pub returns : goal.returns
returns g c =
    rw c.in_ok-append.ensures.items (without_open c.library-library.result.now c.args.design.now c.args.flat.now c.in_ok-faults.faults.items
    c.in_ok-spacing_faults.field-0.items c.library-library.ensures.is
    c.in_ok-faults.ensures c.in_ok-spacing_faults.ensures)
