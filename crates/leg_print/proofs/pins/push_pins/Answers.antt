use Rattle.std.proofs.Common.{codes, rules}
use Rattle.std.proofs.lemmas.Result.{on_ok_weaker}
use Rattle.leg_output.specs.Words.{line}
use Rattle.leg_output.specs.Text.Pins.{pin_words}
use Rattle.leg_print.proofs.SectionText.{section_pushed}
use Rattle.leg_print.proofs.pins.push_pins.Goals as goal

pub returns : goal.returns
returns g c =
    let design = c.args.design.now in
    on_ok_weaker c.push_section_end.result (λ last.
    section_pushed (codes "PINS") (λ pin. line (pin_words design pin)) c.args.pins.now c.loop-pin.pin-index _ c.push_section_start.new.text.items
    c.loop-pin.text.items _
    (search rules) c.in_ok-push_section_start.ensures c.loop-pin.invariant c.loop-pin-test.false last) c.push_section_end.ensures
