use Rattle.std.proofs.Common.{◌≡◌, length, rules, ap, ◌∙◌}
use Rattle.leg_route_grid.specs.Steps.Grid.{GridModel}
use Rattle.leg_route_grid.proofs.Slots.{by_division}
use Rattle.leg_route_grid.proofs.grid.Grid.slot.Goals as goal

pub returns-clause-is : goal.returns-clause-is
returns-clause-is g c =
    let columns : c.len-columns.result ≡ length c.self.inside.xs.items = search rules in
    let rows : c.len-rows.result ≡ length c.self.inside.ys.items = search rules in
    let columns : c.len-columns.result ≡ length c.args.self.now.xs = columns ∙ ap (λ (s : GridModel). length s.xs) c.self.view_is in
    let rows : c.len-rows.result ≡ length c.args.self.now.ys = rows ∙ ap (λ (s : GridModel). length s.ys) c.self.view_is in
    let parts = by_division (length c.args.self.now.layers) (length c.args.self.now.ys) (length c.args.self.now.xs) c.args.number c.requires in
    rw (columns, rows) (record { layer = parts.layer; row = parts.row; column = parts.column; is = parts.is })
