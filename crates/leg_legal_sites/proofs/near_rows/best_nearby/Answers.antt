-- One more row below or above, until the rows on both sides are farther away than the best position.
use Rattle.leg_legal_sites.specs.Steps.FreeListSharing.{row_lists}
use Rattle.leg_legal_sites.proofs.RowsAround.{searched_below, searched_above, best_of_near}
use Rattle.leg_legal_sites.proofs.near_rows.best_nearby.Goals as goal
use Rattle.leg_legal_sites.proofs.near_rows.best_nearby.Goals.{then-place-low, else-place-low}

pub returns-in_default-clause-all : goal.returns-in_default-clause-all
returns-in_default-clause-all g c is =
    let order = c.args.order.now in
    best_of_near c.args.design.now.rows order (row_lists order c.args.lists.now) c.args.wanted.now c.requires.rows.order c.loop.low c.loop.high
    c.loop.invariant.split c.loop.best c.loop.invariant.is_best c.in_default.ensures

pub loop-preserved : goal.loop-preserved
loop-preserved g c =
    let order = c.args.order.now in
    let next = c.in-Some.ensures in
    elim c.if-place-low.branch [
      | then-place-low w ↦
          rw (w.low-is, w.high-is) (searched_below c.args.design.now.rows order
          (row_lists order c.args.lists.now) c.args.wanted.now c.requires.rows.order c.loop.low c.loop.high c.in-Some.place c.loop.best c.best_at-best.result
          c.loop.invariant next.0 w.if-place-low.true next.1 c.best_at-best.ensures)
      | else-place-low w ↦
          rw (w.low-is, w.high-is) (searched_above c.args.design.now.rows order
          (row_lists order c.args.lists.now) c.args.wanted.now c.requires.rows.order c.loop.low c.loop.high c.in-Some.place c.loop.best c.best_at-best.result
          c.loop.invariant next.0 w.if-place-low.false next.1 c.best_at-best.ensures)
    ]
