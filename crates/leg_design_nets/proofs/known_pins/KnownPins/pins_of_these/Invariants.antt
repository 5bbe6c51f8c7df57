-- The components so far.
use Rattle.std.proofs.Common.{◌≡◌}
use Rattle.leg_design_nets.specs.Steps.Pins.{pins_of_these}
use Rattle.leg_design_nets.proofs.PinsOfAll.{behind}
use Rattle.leg_design_nets.proofs.known_pins.KnownPins.pins_of_these.Given as goal

abbrev pub invariant-loop-number : goal.invariant-loop-number
invariant-loop-number g l = behind l.self l.name l.terminals.items l.numbers l.number-index ≡ pins_of_these l.self l.name l.numbers
