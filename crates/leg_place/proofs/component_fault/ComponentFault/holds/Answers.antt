-- A violation of a component holds where the test of its kind says so.
use Rattle.leg_rules.specs.Placement.Violations.IsPlacementViolation.{unplaced, outside, off_site, blocked}
use Rattle.leg_place.proofs.PlaceFaults.{unplaced_there, outside_there, off_site_there, blocked_there}
use Rattle.leg_place.proofs.component_fault.ComponentFault.holds.Goals as goal

pub returns-in-Unplaced : goal.returns-in-Unplaced
returns-in-Unplaced g c =
    let design = c.args.design.now in
    rw c.in-Unplaced.is (λ t. unplaced (c.is_unplaced.ensures.0 t), λ h. c.is_unplaced.ensures.1 (unplaced_there design c.args.component h))

pub returns-in-Outside : goal.returns-in-Outside
returns-in-Outside g c =
    let design = c.args.design.now in
    rw c.in-Outside.is (λ t. outside (c.is_outside.ensures.0 t), λ h. c.is_outside.ensures.1 (outside_there design c.args.component h))

pub returns-in-OffSite : goal.returns-in-OffSite
returns-in-OffSite g c =
    let design = c.args.design.now in
    rw c.in-OffSite.is (λ t. off_site (c.is_off_site.ensures.0 t), λ h. c.is_off_site.ensures.1 (off_site_there design c.args.component h))

pub returns-in-Blocked : goal.returns-in-Blocked
returns-in-Blocked g c =
    let design = c.args.design.now in
    rw c.in-Blocked.is (λ t. blocked (c.is_blocked.ensures.0 t), λ h. c.is_blocked.ensures.1 (blocked_there design c.args.component h))
