use Rattle.std.proofs.Common.{◌≡◌, [], drop}
use Rattle.leg_lex.specs.Until.{over}
use Rattle.leg_drc_rules.specs.Rules.{with_line_end}
use Rattle.leg_drc_rules.proofs.rules.line_ends.Given as goal

abbrev pub invariant-loop-statement : goal.invariant-loop-statement
invariant-loop-statement g l = over with_line_end l.line_ends.items (drop l.statement-index l.statements) ≡ over with_line_end [] l.statements
