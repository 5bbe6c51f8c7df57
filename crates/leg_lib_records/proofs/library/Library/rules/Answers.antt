use Rattle.leg_lib_records.proofs.library.Library.rules.Goals as goal

pub returns-clause-proper : goal.returns-clause-proper
returns-clause-proper g c = rw (← c.self.view_is) c.self.invariant
