use Rattle.std.proofs.Common.{◌≡◌, drop}
use Rattle.leg_drc_rules.specs.Forms.{first_of}
use Rattle.leg_drc_rules.proofs.form.first_of.Given as goal

abbrev pub invariant-loop-statement : goal.invariant-loop-statement
invariant-loop-statement l = first_of l.form (drop l.statement-index l.statements) ≡ first_of l.form l.statements
