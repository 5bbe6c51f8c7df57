use Rattle.leg_flat.proofs.PieceMetal.{terminal_metal}
use Rattle.leg_flat.proofs.laws.terminal_has_its_metal.Goals as goal

pub returns : goal.returns
returns c = terminal_metal
