-- The rectangles so far have nodes.
use Rattle.std.proofs.Common.{map, take}
use Rattle.leg_sweep.specs.Steps.Nodes.{AreGrouped}
use Rattle.leg_sweep.proofs.groups.push_rects.Given as goal

abbrev pub invariant-loop-key : goal.invariant-loop-key
invariant-loop-key g l = AreGrouped l.rects (map (λ key. key.1) (take l.key-index l.keys)) l.bounds l.fn.nodes.items l.nodes.items
