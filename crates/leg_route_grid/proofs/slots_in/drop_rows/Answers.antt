use Rattle.std.proofs.Common.{rules}
use Rattle.leg_route_grid.specs.Steps.SlotRanges.{IsInRows}
use Rattle.leg_route_grid.proofs.FewerNumbers.{left_of, none_dropped}
use Rattle.leg_route_grid.proofs.slots_in.drop_rows.Goals as goal

pub returns-then-len-slots_of : goal.returns-then-len-slots_of
returns-then-len-slots_of g c =
    let P = IsInRows c.args.grid.now c.args.layer c.args.rows c.args.columns in
    let left = left_of _ P _ (λ x b f' k. search rules) c.args.slots.now.items c.retain.new.self.items c.retain.ensures.filtered in
    record { old = left.0; kept = left.1 }

pub returns-else-len-slots_of : goal.returns-else-len-slots_of
returns-else-len-slots_of g c = none_dropped _ _
