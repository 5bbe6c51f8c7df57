use Rattle.std.proofs.Common.{◌≡◌, [], length}
use Rattle.leg_lex.specs.Until.{until}
use Rattle.leg_drc_rules.specs.Table.{one_row, at_no_word}
use Rattle.leg_drc_rules.proofs.table.rows.Given as goal

abbrev pub invariant-rows : goal.invariant-rows
invariant-rows g l = until at_no_word one_row l.rows.items l.words ≡ until at_no_word one_row [] l.initial.words

abbrev pub decreases-rows : goal.decreases-rows
decreases-rows g l = length l.words
