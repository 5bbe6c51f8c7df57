use Rattle.std.proofs.Common.{◌≡◌, [], length}
use Rattle.leg_lex.specs.Until.{until}
use Rattle.leg_lex.specs.Statements.{at_end, one_statement}
use Rattle.leg_lex.proofs.cursor.Cursor.statements.Given as goal

abbrev pub invariant-statements : goal.invariant-statements
invariant-statements g l =
    until at_end one_statement l.statements.items l.self ≡ until at_end one_statement [] l.initial.self

abbrev pub decreases-statements : goal.decreases-statements
decreases-statements g l = length l.self
