use Rattle.std.proofs.Common.{◌≡◌, ◌+◌, ◌*◌, ◌/◌, ◌≤◌, ◌∙◌, max, arith}
use Rattle.leg_geom.specs.declared.limits.TheConstants.{COORDINATE_LIMIT}
use Rattle.leg_sweep.proofs.GridHeights.{room_for_all, parts_few}
use Rattle.leg_sweep.proofs.grid.band_height.Goals as goal

pub returns-clause-even : goal.returns-clause-even
returns-clause-even c =
    let span = c.args.span in
    let count : c.max.result ≡ max span.count 1 = c.max.ensures in
    let divisor : c.from.result ≡ max span.count 1 = c.from.ensures ∙ count in
    let tall : span.total / max span.count 1 + 1 + c.args.reach ≤ c.max-2.result = rw (← divisor) (omega (arith, c.max-2.ensures)) in
    room_for_all span.total span.count (2 * COORDINATE_LIMIT) c.args.reach c.max-2.result c.requires.small.total tall

pub returns-clause-few : goal.returns-clause-few
returns-clause-few c = parts_few c.args.spread (c.args.span.count / 8 + 1) c.max-2.result (omega arith) (omega (arith, c.max-2.ensures))
