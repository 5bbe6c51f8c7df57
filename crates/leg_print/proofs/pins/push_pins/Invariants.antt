use Rattle.std.proofs.Common.{◌≡◌, ◌++◌, take}
use Rattle.std.specs.List.{flat_map}
use Rattle.leg_output.specs.Words.{line}
use Rattle.leg_output.specs.Text.Pins.{pin_words}
use Rattle.leg_print.proofs.pins.push_pins.Given as goal

abbrev pub invariant-loop-pin : goal.invariant-loop-pin
invariant-loop-pin g l = l.text.items ≡ l.initial.text.items ++ flat_map (λ pin. line (pin_words l.design pin)) (take l.pin-index l.pins)
