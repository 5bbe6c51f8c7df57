-- The rectangles of the first shapes, up to the next one.
use Rattle.std.proofs.Common.{◌≡◌, ◌≤◌, length}
use Rattle.leg_wire.specs.Steps.Joins.{first_rects}
use Rattle.leg_wire.proofs.net_joins.index_all.Given as goal

abbrev pub invariant-loop-number : goal.invariant-loop-number
invariant-loop-number g l = record {
  count : length l.index ≡ l.number;
  within : l.number ≤ length l.metal;
  first : l.index ≡ first_rects l.number l.metal;
}
