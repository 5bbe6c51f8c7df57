use Rattle.std.proofs.Common.{sym, ◌∙◌}
use Rattle.leg_lib.proofs.Sides.{later}
use Rattle.leg_lib.proofs.polygon.length_of.Goals as goal

pub lengths-preserved : goal.lengths-preserved
lengths-preserved c =
    later c.args.lengths.now c.lengths.length-index c.length-item.result _ c.lengths-test.true c.length-item.is
    (sym c.is_length.ensures ∙ c.if-is_length.false) c.lengths.invariant
