-- The kinds of the shapes so far, and a place for each shape.
use Rattle.std.proofs.Common.{◌≡◌, length}
use Rattle.leg_wire.proofs.AlikeMetal.{AreKindsOfFirst}
use Rattle.leg_wire.proofs.kinds.kinds_of.Given as goal

abbrev pub invariant-loop-one : goal.invariant-loop-one
invariant-loop-one g l = record {
  kinds : AreKindsOfFirst g.M.Metal.Alike l.metal l.one-index l.kinds.items l.numbers.items;
  places : length l.latest.items ≡ length l.metal;
}
