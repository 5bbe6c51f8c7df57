use Rattle.std.proofs.Common.{◌≡◌, drop}
use Rattle.std.specs.List.{find}
use Rattle.leg_grammar.specs.Lef.Layer.{is_table}
use Rattle.leg_lib.proofs.spacing.first_table.Given as goal

abbrev pub invariant-loop-statement : goal.invariant-loop-statement
invariant-loop-statement l = find is_table (drop l.statement-index l.statements) ≡ find is_table l.statements
