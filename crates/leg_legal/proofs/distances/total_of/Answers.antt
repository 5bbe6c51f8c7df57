-- One more distance.
use Rattle.leg_legal.proofs.Totals.{sum_fits, total_next}
use Rattle.leg_legal.proofs.distances.total_of.Goals as goal

pub overflow_add-total : goal.overflow_add-total
overflow_add-total c =
    let known = c.loop-distance.invariant in
    sum_fits c.args.distances.now c.loop-distance.distance-index _ c.requires.each c.requires.few c.loop-distance-test.true known.0 known.1 known.2

pub loop-distance-preserved : goal.loop-distance-preserved
loop-distance-preserved c =
    let known = c.loop-distance.invariant in
    total_next c.args.distances.now c.loop-distance.distance-index _ c.requires.each c.requires.few c.loop-distance-test.true known.0 known.1 known.2
