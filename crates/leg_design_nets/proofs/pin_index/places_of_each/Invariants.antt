-- The macros so far.
use Rattle.std.proofs.Common.{◌≡◌, length, take}
use Rattle.leg_design_nets.specs.Steps.Pins.{place_in_tables, ArePinPlaces}
use Rattle.leg_design_nets.proofs.pin_index.places_of_each.Given as goal

abbrev pub invariant-loop-m : goal.invariant-loop-m
invariant-loop-m g l = record {
  long : length l.tables.items ≡ l.m;
  places : ArePinPlaces (take l.m l.masters) l.components (place_in_tables l.tables.items);
}
