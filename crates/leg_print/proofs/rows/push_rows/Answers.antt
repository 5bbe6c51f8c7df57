use Rattle.std.proofs.Common.{arith}
use Rattle.leg_output.specs.Words.{line}
use Rattle.leg_output.specs.Text.Rows.{row_words}
use Rattle.leg_print.proofs.Appends.{one_more}
use Rattle.leg_print.proofs.rows.push_rows.Goals as goal

pub loop-row-preserved : goal.loop-row-preserved
loop-row-preserved g c =
    one_more (λ row. line (row_words c.args.design.now row)) c.args.rows.now c.loop-row.row-index c.row-item.result
    _ c.loop-row.text.items _ (omega arith) c.row-item.is c.loop-row.invariant c.in_ok-push_row.ensures
