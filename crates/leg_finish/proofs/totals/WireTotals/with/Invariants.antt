-- The totals of the wires so far, and how large they can be.
use Rattle.std.proofs.Common.{◌≡◌, ◌≤◌, ◌+◌, ◌*◌, take, sum_by, count_by}
use Rattle.leg_geom.specs.declared.limits.TheConstants.{COORDINATE_LIMIT}
use Rattle.leg_rules.specs.Finish.Wires.{wire_length, is_via}
use Rattle.leg_finish.proofs.totals.WireTotals.with.Given as goal

abbrev pub invariant-loop-wire : goal.invariant-loop-wire
invariant-loop-wire l = record {
  length_is : l.length ≡ l.fn.self.length + sum_by wire_length (take l.wire-index l.wires);
  vias_are : l.vias ≡ l.fn.self.vias + count_by is_via (take l.wire-index l.wires);
  short : l.length ≤ l.fn.self.length + l.wire-index * (4 * COORDINATE_LIMIT);
  few : l.vias ≤ l.fn.self.vias + l.wire-index;
}
