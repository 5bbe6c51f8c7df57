use Rattle.std.proofs.Common.{arith}
use Rattle.leg_route_grid.specs.Steps.SlotRanges.{IsInRow}
use Rattle.leg_route_grid.proofs.SlotRanges.{none_more, one_more, all_got}
use Rattle.leg_route_grid.proofs.slots_in.add_rows.Goals as goal

pub loop-row-init : goal.loop-row-init
loop-row-init g c = (
  none_more (λ row m. IsInRow c.args.grid.now c.args.layer row c.args.columns m) c.args.rows.0 c.args.slots.now.items,
  λ j from below. absurd (omega (arith, from, below)),
)

pub loop-row-preserved : goal.loop-row-preserved
loop-row-preserved g c = (
  one_more (λ row m. IsInRow c.args.grid.now c.args.layer row c.args.columns m) c.args.rows.0 c.args.slots.now.items c.loop-row.row c.loop-row.slots.items
      c.add_row.new.slots.items (omega arith) c.loop-row.invariant.0 c.in_ok-add_row.ensures,
  λ j from below. omega (arith, from, below),
)

pub returns : goal.returns
returns g c =
    all_got (λ row m. IsInRow c.args.grid.now c.args.layer row c.args.columns m) c.args.rows.0 c.args.slots.now.items c.loop-row.row c.args.rows.1
    c.loop-row.slots.items (omega arith) c.loop-row.invariant.1 c.loop-row.invariant.0
