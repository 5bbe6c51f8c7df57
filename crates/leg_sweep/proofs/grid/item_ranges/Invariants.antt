-- The ranges of the items so far.
use Rattle.std.proofs.Common.{◌≡◌, map, take}
use Rattle.leg_sweep.specs.Steps.Grid.{bands_at, range_in}
use Rattle.leg_sweep.proofs.grid.item_ranges.Given as goal

abbrev pub invariant-loop-item : goal.invariant-loop-item
invariant-loop-item g l =
    let fixed = g.R.PairRule.fixed l.rule in
    l.ranges.items ≡ map (λ a. range_in (bands_at l.grid (g.R.LayeredRule.layer_of fixed a)) (g.R.PairRule.rect_of fixed a)) (take l.item-index l.items)
