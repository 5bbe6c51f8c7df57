-- The pieces are united where the rectangles join them.
use Rattle.leg_wire.proofs.SetsOfPairs.{join_step}
use Rattle.leg_wire.proofs.joining.join.Goals as goal

pub returns-then-branch-clause-step : goal.returns-then-branch-clause-step
returns-then-branch-clause-step g c =
    join_step c.args.a.now c.args.b.now c.args.sets.now c.unite.new.self c.args.corners.now c.are_newly_joined.new.corners c.in_ok-are_newly_joined.field-0
    c.if-branch.true c.in_ok-are_newly_joined.ensures.answer (rw (← c.are_newly_joined.ensures.same) c.unite.ensures.united)
