use Rattle.std.proofs.Common.{◌≡◌, length}
use Rattle.leg_drc_rules.specs.Table.{rows_fit}
use Rattle.leg_drc_rules.proofs.table.rows_fit.Given as goal

abbrev pub invariant-words : goal.invariant-words
invariant-words l = rows_fit l.row l.left l.words ≡ rows_fit l.row l.row l.initial.words

abbrev pub decreases-words : goal.decreases-words
decreases-words l = length l.words
