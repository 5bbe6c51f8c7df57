use Rattle.leg_lib_records.proofs.JoinLayers.{outer_more, outer_all}
use Rattle.leg_lib_records.proofs.joins.outer_layers.Goals as goal

pub loop-part-preserved : goal.loop-part-preserved
loop-part-preserved c =
    rw (c.min-low.ensures, c.max-high.ensures) (outer_more _ _ _ _ _ c.loop-part-test.true c.loop-part.invariant)

pub returns : goal.returns
returns c = outer_all _ _ _ _ c.loop-part-test.false c.loop-part.invariant
