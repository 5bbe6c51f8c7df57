use Rattle.leg_route_laws.proofs.OpenNets.{open_then, open_before}
use Rattle.leg_route_laws.proofs.laws.open_nets_stay_open.Goals as goal

pub returns : goal.returns
returns c = λ design added grown lists end from n entry first. (
  open_then c.metal_has_its_piece.ensures c.piece_has_its_metal.ensures c.joined_both_ways.ensures c.joined_onward.ensures design added grown lists end from n
      entry first,
  open_before c.metal_has_its_piece.ensures c.piece_has_its_metal.ensures c.joined_both_ways.ensures c.joined_onward.ensures design added grown lists end from
      n entry first,
)
