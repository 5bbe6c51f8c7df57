-- What is left gives what all nodes give.
use Rattle.std.proofs.Common.{◌≡◌, length}
use Rattle.leg_sweep.specs.NearNumbers.{near_numbers}
use Rattle.leg_sweep.specs.Steps.Nodes.{IsSearch}
use Rattle.leg_sweep.proofs.near.first_near.Given as goal

abbrev pub invariant-loop-node : goal.invariant-loop-node
invariant-loop-node l = record {
  same : near_numbers l.rects l.window.rect l.window.reach l.nodes ≡ near_numbers l.rects l.window.rect l.window.reach l.left;
  search : IsSearch l.rects l.window l.left;
}

abbrev pub decreases-loop-node : goal.decreases-loop-node
decreases-loop-node l = length l.left
