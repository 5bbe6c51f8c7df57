use Rattle.std.proofs.Common.{◌≡◌, ◌++◌, ◌∷◌, codes, map, take}
use Rattle.std.specs.List.{flat_map}
use Rattle.leg_output.specs.Text.Wires.{wire_words}
use Rattle.leg_output.specs.Text.Nets.{wire_line}
use Rattle.leg_print.proofs.nets.push_wires.Given as goal

abbrev pub invariant-loop-wire : goal.invariant-loop-wire
invariant-loop-wire g l =
    l.text.items ≡ l.initial.text.items ++ flat_map wire_line (map (λ other. codes "NEW" ∷ wire_words l.design l.special other) (take l.wire-index l.others))
