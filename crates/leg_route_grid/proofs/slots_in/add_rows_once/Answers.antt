use Rattle.leg_route_grid.specs.Steps.SlotRanges.{IsInRows}
use Rattle.leg_route_grid.proofs.FewerNumbers.{got_again}
use Rattle.leg_route_grid.proofs.slots_in.add_rows_once.Goals as goal

pub returns : goal.returns
returns g c =
    got_again (IsInRows c.args.grid.now c.args.layer c.args.rows c.args.columns) c.args.slots.now.items c.drop_rows.new.slots.items c.add_rows.new.slots.items
    c.drop_rows.ensures c.in_ok-add_rows.ensures
