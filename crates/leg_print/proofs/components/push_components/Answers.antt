use Rattle.std.proofs.Common.{codes, rules}
use Rattle.std.proofs.lemmas.Result.{on_ok_weaker}
use Rattle.leg_output.specs.Words.{line}
use Rattle.leg_output.specs.Text.Components.{component_words}
use Rattle.leg_print.proofs.SectionText.{section_pushed}
use Rattle.leg_print.proofs.components.push_components.Goals as goal

pub returns : goal.returns
returns g c =
    let design = c.args.design.now in
    on_ok_weaker c.push_section_end.result (λ last.
    section_pushed (codes "COMPONENTS") (λ component. line (component_words design component)) c.args.components.now c.loop-component.component-index _
    c.push_section_start.new.text.items c.loop-component.text.items _
    (search rules) c.in_ok-push_section_start.ensures c.loop-component.invariant c.loop-component-test.false last) c.push_section_end.ensures
