use Rattle.std.proofs.Common.{◌≤◌, arith}
use Rattle.leg_rules.specs.declared.grid_limits.TheConstants.{GREATEST_GRID}
use Rattle.leg_route_grid.specs.Steps.WalkBounds.{slot_of, bound_at}
use Rattle.leg_route_grid.proofs.Bounds.{nearest_few}
use Rattle.leg_route_access.proofs.net_graph.NetGraphGraph.bound.Goals as goal

pub returns-clause-small : goal.returns-clause-small
returns-clause-small g c =
    let grid = c.args.self.now.grid.now in
    let few : bound_at grid c.args.self.now.ends.now c.args.node ≤ GREATEST_GRID = nearest_few c.args.self.now.ends.now (slot_of grid c.args.node) in
    omega (arith, few)
