-- The table asks for no more than its reach.
use Rattle.std.proofs.Common.{rules, arith}
use Rattle.leg_drc.specs.Table.{table_spacing}
use Rattle.leg_drc.specs.Steps.TableRule.{spacing_within}
use Rattle.leg_drc.proofs.table.table_spacing.Goals as goal

pub returns-clause-is : goal.returns-clause-is
unfolding table_spacing
returns-clause-is g c = search rules

pub returns-clause-within : goal.returns-clause-within
returns-clause-within g c = omega (arith, returns-clause-is g c, spacing_within c.args.table.now c.args.a.now c.args.b.now)
