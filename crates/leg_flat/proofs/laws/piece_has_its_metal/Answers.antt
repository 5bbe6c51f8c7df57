use Rattle.leg_flat.proofs.PieceMetal.{piece_has}
use Rattle.leg_flat.proofs.laws.piece_has_its_metal.Goals as goal

pub returns : goal.returns
returns c = piece_has
