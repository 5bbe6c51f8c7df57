use Rattle.leg_route_grid.proofs.GridValues.{in_order, y_lines}
use Rattle.leg_route_grid.proofs.lines.grid_ys.Goals as goal

pub returns : goal.returns
returns g c = in_order _ _ _ _ c.put_in_order.ensures.rising c.put_in_order.ensures.same c.in_ok-ys.ensures (y_lines c.args.design.now)
