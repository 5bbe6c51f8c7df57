-- The shapes so far stand in the lists of their nets.
use Rattle.std.proofs.Common.{◌≡◌, ℕ, ◌<◌, [], length, get_or}
use Rattle.leg_wire.proofs.NetNumbers.{AreBelow}
use Rattle.leg_wire.proofs.net_shapes.numbers_by_net.Given as goal

abbrev pub invariant-loop-number : goal.invariant-loop-number
invariant-loop-number g l = record {
  long : length l.lists.items ≡ l.nets;
  each : (net : ℕ) → net < l.nets → AreBelow l.shapes net l.number (get_or l.lists.items net []);
}
