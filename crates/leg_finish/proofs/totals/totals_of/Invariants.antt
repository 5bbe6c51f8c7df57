-- The totals of the lists so far, and how large they can be.
use Rattle.std.proofs.Common.{◌≡◌, ◌≤◌, ◌*◌, length, take, sum_by, count_by}
use Rattle.leg_geom.specs.declared.limits.TheConstants.{COORDINATE_LIMIT}
use Rattle.leg_rules.specs.Finish.Wires.{wire_length, is_via}
use Rattle.leg_finish.proofs.totals.totals_of.Given as goal

abbrev pub invariant-loop-wires : goal.invariant-loop-wires
invariant-loop-wires g l = record {
  length_is : l.totals.length ≡ sum_by (λ wires. sum_by wire_length wires.items) (take l.wires-index l.lists);
  vias_are : l.totals.vias ≡ sum_by (λ wires. count_by is_via wires.items) (take l.wires-index l.lists);
  short : l.totals.length ≤ sum_by (λ wires. length wires.items) (take l.wires-index l.lists) * (4 * COORDINATE_LIMIT);
  few : l.totals.vias ≤ sum_by (λ wires. length wires.items) (take l.wires-index l.lists);
}
