use Rattle.leg_flat.proofs.PieceMetal.{obstruction_metal}
use Rattle.leg_flat.proofs.laws.obstruction_has_its_metal.Goals as goal

pub returns : goal.returns
returns c = obstruction_metal
