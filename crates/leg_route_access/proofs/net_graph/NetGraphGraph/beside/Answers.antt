use Rattle.leg_route_access.proofs.TurnedNeighbours.{beside_near}
use Rattle.leg_route_access.proofs.net_graph.NetGraphGraph.beside.Goals as goal

pub returns-clause-is : goal.returns-clause-is
returns-clause-is g c to = (
  λ e. beside_near c.args.self.now.grid.now c.args.self.now.starts.now c.args.self.now.ends.now c.args.side c.args.node to c.beside.ensures.proper
      ((c.beside.ensures.is to).0 e),
  λ near. (c.beside.ensures.is to).1 near.beside,
)
