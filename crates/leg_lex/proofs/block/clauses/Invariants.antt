use Rattle.std.proofs.Common.{◌≡◌, ◌++◌, length}
use Rattle.leg_lex.specs.Statements.{clauses_of}
use Rattle.leg_lex.proofs.block.clauses.Given as goal

abbrev pub invariant-clauses : goal.invariant-clauses
invariant-clauses g l = l.clauses.items ++ clauses_of l.rest ≡ clauses_of l.statement

abbrev pub decreases-clauses : goal.decreases-clauses
decreases-clauses g l = length l.rest
