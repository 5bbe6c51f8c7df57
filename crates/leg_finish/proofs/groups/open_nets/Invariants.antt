-- The open ones of the nets so far, and the numbers of the shapes of those to come.
use Rattle.std.proofs.Common.{length}
use Rattle.leg_finish.specs.Steps.OpenNets.{AreOpenNetsBelow, AreListsFrom}
use Rattle.leg_finish.proofs.groups.open_nets.Given as goal

abbrev pub invariant-loop-shapes : goal.invariant-loop-shapes
invariant-loop-shapes g l = record {
  lists : AreListsFrom l.flat l.net (length l.design.nets) l.shapes-iterator.rest.items;
  found : AreOpenNetsBelow l.net l.design l.flat l.found.items;
}
