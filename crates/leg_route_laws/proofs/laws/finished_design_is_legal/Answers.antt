use Rattle.leg_route_laws.proofs.Legal.{is_legal}
use Rattle.leg_route_laws.proofs.laws.finished_design_is_legal.Goals as goal

pub returns : goal.returns
returns c =
    λ design added grown lists end from. is_legal c.metal_has_its_piece.ensures c.piece_has_its_metal.ensures design added grown lists end from
    c.joined_both_ways.ensures c.joined_onward.ensures
