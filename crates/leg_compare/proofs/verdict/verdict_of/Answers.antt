use Rattle.std.proofs.Common.{rules, arith}
use Rattle.leg_compare.proofs.Counts.{next_move, next_growth}
use Rattle.leg_compare.proofs.verdict.verdict_of.Goals as goal
use Rattle.leg_compare.proofs.verdict.verdict_of.Goals.{then-is_move, else-is_move+then-is_growth}

pub loop-difference-preserved : goal.loop-difference-preserved
loop-difference-preserved g c =
    elim c.if-is_move.branch [
      | then-is_move w ↦ rw (w.moves-is, w.growths-is) (next_move c.args.first.now c.args.differences.now c.loop-difference.difference-index _
          c.loop-difference.moves c.loop-difference.growths (omega arith) (search rules) c.loop-difference.invariant (c.is_move.ensures.0 w.if-is_move.true))
      | else-is_move+then-is_growth w ↦ rw (w.moves-is, w.growths-is)
          (next_growth c.args.first.now c.args.differences.now c.loop-difference.difference-index _ c.loop-difference.moves c.loop-difference.growths
          (omega arith) (search rules) c.loop-difference.invariant (w.is_growth.ensures.0 w.if-is_growth.true))
    ]
