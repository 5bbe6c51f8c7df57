use Rattle.leg_route_grid.proofs.GridSlots.{one_node, one_number}
use Rattle.leg_route_grid.proofs.laws.nodes_have_numbers.Goals as goal

pub returns-clause-apart : goal.returns-clause-apart
returns-clause-apart c grid n a b is_grid = one_node grid is_grid n a b

pub returns-clause-once : goal.returns-clause-once
returns-clause-once c grid m n node is_grid = one_number grid is_grid m n node
