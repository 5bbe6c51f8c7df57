use Rattle.leg_route_laws.proofs.OpenNets.{marked_then, marked_before}
use Rattle.leg_route_laws.proofs.laws.marked_nets_stay_open.Goals as goal

pub returns : goal.returns
returns c = λ design added grown lists end from n entry marks marked. (
  marked_then c.metal_has_its_piece.ensures c.piece_has_its_metal.ensures c.joined_both_ways.ensures c.joined_onward.ensures design added grown lists end from
      n entry marks marked,
  marked_before c.metal_has_its_piece.ensures c.piece_has_its_metal.ensures c.joined_both_ways.ensures c.joined_onward.ensures design added grown lists end
      from n entry marks marked,
)
