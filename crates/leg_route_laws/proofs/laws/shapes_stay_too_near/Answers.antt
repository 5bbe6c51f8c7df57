use Rattle.leg_route_laws.proofs.Legal.{same_near}
use Rattle.leg_route_laws.proofs.laws.shapes_stay_too_near.Goals as goal

pub returns : goal.returns
returns c =
    λ library design added grown lists end from. same_near c.metal_has_its_piece.ensures c.piece_has_its_metal.ensures design added grown lists end from library
