use Rattle.leg_app.specs.LegaliseResult.ReportsNotLegalised.{fixed_illegal, no_site, no_room}
use Rattle.leg_app.proofs.legalise_answer.not_legalised.Goals as goal

pub returns-in_ok-text-in-FixedIllegal-clause-tells : goal.returns-in_ok-text-in-FixedIllegal-clause-tells
returns-in_ok-text-in-FixedIllegal-clause-tells g c = λ refused.
    let why = rw c.in-FixedIllegal.is at refused in
    rw c.unsolved.ensures (fixed_illegal why.0 why.1 (rw c.as_slice.ensures at c.in_ok-text-in-FixedIllegal.ensures))

pub returns-in_ok-text-in-NoSite-clause-tells : goal.returns-in_ok-text-in-NoSite-clause-tells
returns-in_ok-text-in-NoSite-clause-tells g c = λ refused.
    let why = rw c.in-NoSite.is at refused in
    rw c.unsolved-in-NoSite.ensures (no_site why.0 why.1 why.2
    (rw (c.as_slice-in-NoSite.ensures, c.in_ok-component-in-NoSite.ensures, c.component_name.ensures) at c.in_ok-text-in-NoSite.ensures))

pub returns-in_ok-text-in-NoRoom-clause-tells : goal.returns-in_ok-text-in-NoRoom-clause-tells
returns-in_ok-text-in-NoRoom-clause-tells g c = λ refused.
    let why = rw c.in-NoRoom.is at refused in
    rw c.unsolved-in-NoRoom.ensures (no_room why.0 why.1 why.2
    (rw (c.as_slice-in-NoRoom.ensures, c.in_ok-component-in-NoRoom.ensures, c.component_name-in-NoRoom.ensures) at c.in_ok-text-in-NoRoom.ensures))
