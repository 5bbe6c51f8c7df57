use Rattle.std.proofs.Common.{◌≡◌, ◌+◌, ◌≤◌, drop}
use Rattle.leg_design_records.specs.declared.limits.TheConstants.{PART_LIMIT}
use Rattle.leg_design_records.specs.Records.{terminal_count}
use Rattle.leg_grammar.specs.Def.LonePins.{with_lone_pins}
use Rattle.leg_design_nets.proofs.lone_pins.add_lone_pins.Given as goal

abbrev pub invariant-loop-number : goal.invariant-loop-number
invariant-loop-number g l =
    (with_lone_pins (record { nets = l.nets; special = l.special }) l.number (drop l.number l.pins) ≡ with_lone_pins
    (record { nets = l.initial.nets; special = l.initial.special }) 0 l.pins)
    × (terminal_count l.nets + terminal_count l.special ≤ PART_LIMIT + l.number)
