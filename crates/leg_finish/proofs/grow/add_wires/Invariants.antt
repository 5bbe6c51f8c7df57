-- The flat grew by the wires so far.
use Rattle.std.proofs.Common.{◌≡◌, length, take}
use Rattle.leg_route_laws.specs.Growth.{Grows, of_net}
use Rattle.leg_finish.proofs.grow.add_wires.Given as goal

abbrev pub invariant-loop-wire : goal.invariant-loop-wire
invariant-loop-wire g l = record {
  grows : Grows l.design (of_net l.net (take l.wire-index l.wires)) l.fn.flat l.flat;
  nets : length l.flat.pieces ≡ length l.fn.flat.pieces;
}
