use Rattle.std.proofs.Common.{◌≡◌, [], length}
use Rattle.leg_lex.specs.Until.{until}
use Rattle.leg_drc_rules.specs.Table.{one_amount, at_row_end}
use Rattle.leg_drc_rules.proofs.table.amounts.Given as goal

abbrev pub invariant-amounts : goal.invariant-amounts
invariant-amounts g l = until at_row_end one_amount l.amounts.items l.words ≡ until at_row_end one_amount [] l.initial.words

abbrev pub decreases-amounts : goal.decreases-amounts
decreases-amounts g l = length l.words
