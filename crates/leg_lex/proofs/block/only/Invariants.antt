use Rattle.std.proofs.Common.{◌≡◌}
use Rattle.leg_lex.proofs.StatementSearch.{those_before, as_list}
use Rattle.leg_lex.proofs.block.only.Given as goal

abbrev pub invariant-loop-statement : goal.invariant-loop-statement
invariant-loop-statement l = those_before l.keyword l.statements l.statement-index ≡ as_list l.found
