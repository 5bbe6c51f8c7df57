use Rattle.leg_app.proofs.check.violations_of.Goals as goal

pub returns-clause-found : goal.returns-clause-found
returns-clause-found g c = record { flat = c.in_ok-checked.checked.flat; judged = c.in_ok-checked.ensures.flat; list = c.in_ok-checked.ensures.list }
