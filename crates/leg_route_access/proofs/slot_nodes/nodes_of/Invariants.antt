-- The nodes so far are those of the numbers so far.
use Rattle.std.proofs.Common.{take}
use Rattle.std.specs.List.{AllZip}
use Rattle.leg_route_grid.specs.Steps.Grid.{IsNumberOf}
use Rattle.leg_route_access.proofs.slot_nodes.nodes_of.Given as goal

abbrev pub invariant-loop-number : goal.invariant-loop-number
invariant-loop-number g l = AllZip (IsNumberOf l.grid) (take l.number-index l.numbers) l.nodes.items
