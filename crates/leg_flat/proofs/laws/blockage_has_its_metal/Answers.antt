use Rattle.leg_flat.proofs.PieceMetal.{blockage_rect_metal}
use Rattle.leg_flat.proofs.laws.blockage_has_its_metal.Goals as goal

pub returns : goal.returns
returns c = blockage_rect_metal
