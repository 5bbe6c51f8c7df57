use Rattle.leg_route_access.proofs.StepsAlong.{next_is}
use Rattle.leg_route_access.proofs.open_step.next_along.Goals as goal

pub returns-clause-is : goal.returns-clause-is
returns-clause-is g c =
    rw c.or.ensures (next_is c.args.grid.now c.args.number c.beside-east.result c.beside.result c.beside-east.ensures.is c.beside.ensures.is)
