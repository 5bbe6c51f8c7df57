use Rattle.leg_lib_records.proofs.scale_shapes.master_at.Goals as goal

pub returns-in-Err-clause-none : goal.returns-in-Err-clause-none
returns-in-Err-clause-none g c = rw c.of.ensures.kind c.in-Err.ensures.none
