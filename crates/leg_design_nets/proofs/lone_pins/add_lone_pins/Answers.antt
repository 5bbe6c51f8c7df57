use Rattle.std.proofs.Common.{rules, sym, ◌∙◌}
use Rattle.leg_design_records.specs.declared.limits.TheConstants.{PART_LIMIT}
use Rattle.leg_grammar.specs.Def.LonePins.{NetLists}
use Rattle.leg_design_nets.proofs.LonePins.{pin_added, few_more}
use Rattle.leg_design_nets.proofs.lone_pins.add_lone_pins.Goals as goal

pub loop-number-preserved : goal.loop-number-preserved
loop-number-preserved g c =
    let i = c.loop-number.number in
    let pin = c.index-pins-number.result in
    let before : NetLists = record { nets = c.loop-number.nets; special = c.loop-number.special } in
    let after : NetLists = record { nets = c.add_lone_pin.new.nets; special = c.add_lone_pin.new.special } in (
      sym (pin_added before after c.args.pins.now i pin (search rules) (search rules) c.in_ok-add_lone_pin.ensures) ∙ c.loop-number.invariant.0,
      few_more before after i PART_LIMIT pin c.in_ok-add_lone_pin.ensures c.loop-number.invariant.1,
    )
