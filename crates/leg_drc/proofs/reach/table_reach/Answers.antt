use Rattle.std.proofs.Common.{◌≡◌, ◌∙◌, ap, max, get_or, take}
use Rattle.leg_drc.specs.Steps.Reach.{greatest_by, row_reach}
use Rattle.leg_drc.proofs.Greatest.{max_is, greatest_more}
use Rattle.leg_drc.proofs.reach.table_reach.Goals as goal

pub loop-row-preserved : goal.loop-row-preserved
loop-row-preserved g c =
    let rows = c.as_slice-row-items.result.now in
    let k = c.loop-row.row-index in
    let row = c.row-item.result in
    let so_far : c.loop-row.found ≡ greatest_by row_reach (take k rows) = c.loop-row.invariant in
    let next : c.row_reach.result ≡ row_reach (get_or rows k row) = c.row_reach.ensures ∙ ap row_reach c.row-item.is in
    let greater : c.max-found.result ≡ max c.loop-row.found c.row_reach.result = max_is _ _ _ c.max-found.ensures in
    rw (greatest_more row_reach rows k row c.loop-row-test.true, ← so_far, ← next) greater
