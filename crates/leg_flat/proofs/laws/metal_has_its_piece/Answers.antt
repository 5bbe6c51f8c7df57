use Rattle.leg_flat.proofs.MetalPieces.{metal_has}
use Rattle.leg_flat.proofs.laws.metal_has_its_piece.Goals as goal

pub returns : goal.returns
returns c = metal_has
