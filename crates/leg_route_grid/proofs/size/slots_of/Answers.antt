use Rattle.std.proofs.Common.{◌≤◌, ◌/◌, refl, arith}
use Rattle.leg_route_grid.proofs.Sizes.{slots_within}
use Rattle.leg_route_grid.proofs.size.slots_of.Goals as goal

pub returns-then-layers-limit : goal.returns-then-layers-limit
returns-then-layers-limit c = ((slots_within c.args.layers c.args.rows c.args.columns c.args.limit (omega arith) (omega arith)).0 c.if-layers-limit.true, refl)

pub returns-else-layers-limit : goal.returns-else-layers-limit
returns-else-layers-limit c few = let less : c.args.layers ≤ c.args.limit / c.args.columns / c.args.rows =
    (slots_within c.args.layers c.args.rows c.args.columns c.args.limit (omega arith) (omega arith)).1 few in omega (arith, less, c.if-layers-limit.false)
