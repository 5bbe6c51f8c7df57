-- The open nets come behind the others.
use Rattle.leg_check.proofs.ListsOfKinds.{all_violations}
use Rattle.leg_check.proofs.check.check_design.Goals as goal

pub returns-clause-list : goal.returns-clause-list
returns-clause-list g c =
    rw c.in_ok-append.ensures.items (all_violations c.args.design.now c.in_ok-flat.flat c.in_ok-flat.ensures.ok c.in_ok-violations.violations.items
    c.in_ok-open_faults.field-0.items c.in_ok-violations.ensures c.in_ok-open_faults.ensures)
