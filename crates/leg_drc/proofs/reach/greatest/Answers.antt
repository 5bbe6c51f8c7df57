use Rattle.leg_drc.proofs.Greatest.{max_is, greatest_more}
use Rattle.leg_drc.proofs.reach.greatest.Goals as goal

pub loop-reach-preserved : goal.loop-reach-preserved
loop-reach-preserved c =
    rw (greatest_more (λ n. n) c.args.reaches.now c.loop-reach.reach-index 0 c.loop-reach-test.true, ← c.loop-reach.invariant)
    (max_is _ _ _ c.max-found.ensures)
