use Rattle.std.proofs.Common.{arith}
use Rattle.leg_route_grid.specs.Steps.SlotRanges.{IsInRow}
use Rattle.leg_route_access.proofs.SlotsInTurn.{none_among, one_among, all_among, one_row}
use Rattle.leg_route_access.proofs.added.add_in_rows.Goals as goal

pub loop-row-init : goal.loop-row-init
loop-row-init g c = (
  none_among c.args.grid.now c.args.shape.now (λ row m. IsInRow c.args.grid.now c.args.layer row c.args.columns m) c.args.rows.0 c.args.slots.now,
  λ j from below. absurd (omega (arith, from, below)),
)

pub loop-row-preserved : goal.loop-row-preserved
loop-row-preserved g c = (
  one_among c.args.grid.now c.args.shape.now (λ row m. IsInRow c.args.grid.now c.args.layer row c.args.columns m) c.args.rows.0 c.args.slots.now
      c.loop-row.row c.loop-row.slots c.add_in_row.new.slots
      (one_row c.args.grid.now c.args.layer c.args.columns) (omega arith) c.loop-row.invariant.0 c.add_in_row.ensures,
  λ j from below. omega (arith, from, below),
)

pub returns : goal.returns
returns g c =
    all_among c.args.grid.now c.args.shape.now (λ row m. IsInRow c.args.grid.now c.args.layer row c.args.columns m) c.args.rows.0 c.args.slots.now
    c.loop-row.row c.args.rows.1 c.loop-row.slots (omega arith) c.loop-row.invariant.1 c.loop-row.invariant.0
