use Rattle.std.proofs.Common.{sym, ◌∙◌, arith}
use Rattle.leg_route_grid.specs.Steps.Grid.{IsSlot}
use Rattle.leg_route_grid.proofs.GridSlots.{lies_at}
use Rattle.leg_route_access.proofs.SlotsInTurn.{none_among, one_among, all_among, one_slot_told, one_column}
use Rattle.leg_route_access.proofs.added.add_in_row.Goals as goal

pub add_at-requires-clause-on_layer : goal.add_at-requires-clause-on_layer
add_at-requires-clause-on_layer g c node number same =
    let lies = lies_at c.args.grid.now c.number_at-number.result c.args.layer c.args.row c.loop-column.column node c.number_at-number.ensures.is number in
    c.requires.on_layer lies.layer lies.there (sym lies.on ∙ same)

pub loop-column-init : goal.loop-column-init
loop-column-init g c = (
  none_among c.args.grid.now c.args.shape.now (λ column m. IsSlot c.args.grid.now m c.args.layer c.args.row column) c.args.columns.0 c.args.slots.now,
  λ j from below. absurd (omega (arith, from, below)),
)

pub loop-column-preserved : goal.loop-column-preserved
loop-column-preserved g c = (
  one_among c.args.grid.now c.args.shape.now (λ column m. IsSlot c.args.grid.now m c.args.layer c.args.row column) c.args.columns.0 c.args.slots.now
      c.loop-column.column c.loop-column.slots c.add_at.new.slots
      (one_column c.args.grid.now c.args.layer c.args.row) (omega arith) c.loop-column.invariant.0
      (one_slot_told c.args.grid.now c.args.shape.now c.number_at-number.result c.args.layer c.args.row c.loop-column.column c.loop-column.slots
      c.add_at.new.slots c.number_at-number.ensures.is c.add_at.ensures),
  λ j from below. omega (arith, from, below),
)

pub returns : goal.returns
returns g c =
    all_among c.args.grid.now c.args.shape.now (λ column m. IsSlot c.args.grid.now m c.args.layer c.args.row column) c.args.columns.0 c.args.slots.now
    c.loop-column.column c.args.columns.1 c.loop-column.slots (omega arith) c.loop-column.invariant.1 c.loop-column.invariant.0
