use Rattle.std.proofs.Common.{◌≡◌, ◌-◌, ◌≤◌, ◌++◌, length, take}
use Rattle.leg_drc_rules.specs.Section.{statements_in}
use Rattle.leg_drc_rules.proofs.statements.statements.Given as goal

abbrev pub invariant-statements : goal.invariant-statements
invariant-statements g l = record {
  found : l.statements.items ++ statements_in (take (length l.rest - l.left) l.rest) ≡ statements_in (take (length l.words - l.left) l.words);
  within : l.left ≤ length l.rest;
}

abbrev pub decreases-statements : goal.decreases-statements
decreases-statements g l = length l.rest
