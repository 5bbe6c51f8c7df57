-- The components so far.
use Rattle.std.proofs.Common.{◌≡◌, length, take}
use Rattle.leg_design_nets.specs.Steps.Pins.{AreListed}
use Rattle.leg_design_nets.proofs.pin_index.components_of_each.Given as goal

abbrev pub invariant-loop-c : goal.invariant-loop-c
invariant-loop-c g l = record {
  long : length l.lists.items ≡ l.masters;
  listed : AreListed (take l.c l.components) l.lists.items;
}
