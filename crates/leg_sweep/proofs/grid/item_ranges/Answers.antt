use Rattle.std.proofs.lemmas.List.{take_all}
use Rattle.leg_sweep.proofs.grid.item_ranges.Goals as goal

pub returns : goal.returns
returns g c = rw (take_all c.loop-item.item-index c.args.items.now c.loop-item-test.false) at c.loop-item.invariant
