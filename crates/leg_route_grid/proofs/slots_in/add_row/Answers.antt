use Rattle.std.proofs.Common.{arith}
use Rattle.leg_route_grid.specs.Steps.Grid.{IsSlot}
use Rattle.leg_route_grid.proofs.SlotRanges.{none_more, one_more, all_got, one_slot}
use Rattle.leg_route_grid.proofs.slots_in.add_row.Goals as goal

pub loop-column-init : goal.loop-column-init
loop-column-init g c = (
  none_more (λ column m. IsSlot c.args.grid.now m c.args.layer c.args.row column) c.args.columns.0 c.args.slots.now.items,
  λ j from below. absurd (omega (arith, from, below)),
)

pub loop-column-preserved : goal.loop-column-preserved
loop-column-preserved g c = (
  one_more (λ column m. IsSlot c.args.grid.now m c.args.layer c.args.row column) c.args.columns.0 c.args.slots.now.items c.loop-column.column
      c.loop-column.slots.items c.push_once.new.slots.items (omega arith) c.loop-column.invariant.0
      (one_slot c.args.grid.now c.number_at.result c.args.layer c.args.row c.loop-column.column c.loop-column.slots.items c.push_once.new.slots.items
      c.number_at.ensures.is c.in_ok-push_once.ensures),
  λ j from below. omega (arith, from, below),
)

pub returns : goal.returns
returns g c =
    all_got (λ column m. IsSlot c.args.grid.now m c.args.layer c.args.row column) c.args.columns.0 c.args.slots.now.items c.loop-column.column
    c.args.columns.1 c.loop-column.slots.items (omega arith) c.loop-column.invariant.1 c.loop-column.invariant.0
