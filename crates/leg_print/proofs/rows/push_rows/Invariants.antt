use Rattle.std.proofs.Common.{◌≡◌, ◌++◌, take}
use Rattle.std.specs.List.{flat_map}
use Rattle.leg_output.specs.Words.{line}
use Rattle.leg_output.specs.Text.Rows.{row_words}
use Rattle.leg_print.proofs.rows.push_rows.Given as goal

abbrev pub invariant-loop-row : goal.invariant-loop-row
invariant-loop-row g l = l.text.items ≡ l.fn.text.items ++ flat_map (λ row. line (row_words l.design row)) (take l.row-index l.rows)
