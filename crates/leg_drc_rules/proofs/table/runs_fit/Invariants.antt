use Rattle.std.proofs.Common.{◌≡◌, ◌-◌, ◌≤◌, length}
use Rattle.leg_drc_rules.specs.Table.{runs_fit}
use Rattle.leg_drc_rules.proofs.table.runs_fit.Given as goal

abbrev pub invariant-runs : goal.invariant-runs
invariant-runs l = record {
  same : runs_fit (length l.words - length l.rest) l.rest ≡ runs_fit 0 l.words;
  less : length l.rest ≤ length l.words;
}

abbrev pub decreases-runs : goal.decreases-runs
decreases-runs l = length l.rest
