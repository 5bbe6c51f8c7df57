use Rattle.std.proofs.Common.{arith}
use Rattle.std.proofs.lemmas.Int.{to_z-of_z}
use Rattle.leg_drc.proofs.sides.parallel_run.Goals as goal

pub returns : goal.returns
returns c = grind (arith, to_z-of_z)
