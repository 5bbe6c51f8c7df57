use Rattle.std.proofs.Common.{◌++◌, length, rules, ap, ◌∙◌}
use Rattle.std.proofs.lemmas.Result.{on_ok_weaker}
use Rattle.leg_output.specs.Words.{line}
use Rattle.leg_output.specs.Text.Nets.{net_text}
use Rattle.leg_output.specs.Text.Sections.{section_start_words, end_words}
use Rattle.leg_design_records.specs.Names.{net_section}
use Rattle.leg_print.proofs.SectionText.{section_pushed}
use Rattle.leg_print.proofs.nets.push_nets.Goals as goal

pub returns : goal.returns
returns g c =
    let design = c.args.design.now in
    let nets = c.args.nets.now in
    on_ok_weaker c.push_section_end.result (λ last.
    section_pushed (net_section c.args.special) (net_text design c.args.special) nets c.loop-net.net-index _ c.push_section_start.new.text.items
    c.loop-net.text.items _
    (search rules)
    (c.in_ok-push_section_start.ensures ∙ ap (λ keyword. c.args.text.now.items ++ line (section_start_words keyword (length nets)))
    c.net_section-keyword.ensures)
    c.loop-net.invariant c.loop-net-test.false
    (last ∙ ap (λ keyword. c.loop-net.text.items ++ line (end_words keyword)) c.net_section-keyword.ensures)) c.push_section_end.ensures
