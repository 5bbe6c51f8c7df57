-- The macros so far.
use Rattle.std.proofs.Common.{take}
use Rattle.leg_design_nets.specs.Steps.Pins.{numbers_under, AreUnder}
use Rattle.leg_design_nets.proofs.pin_index.masters_by_pin.Given as goal

abbrev pub invariant-loop-m : goal.invariant-loop-m
invariant-loop-m g l = AreUnder (take l.m l.masters) l.components (numbers_under l.table)
