use Rattle.leg_route_laws.proofs.Legal.{same_shorts}
use Rattle.leg_route_laws.proofs.laws.shorts_stay.Goals as goal

pub returns : goal.returns
returns c =
    λ library design added grown lists end from. same_shorts c.metal_has_its_piece.ensures c.piece_has_its_metal.ensures design added grown lists end
    from library
