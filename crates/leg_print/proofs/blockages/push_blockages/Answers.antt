use Rattle.std.proofs.Common.{codes, rules, sym, ap, ◌∙◌, ◌++◌}
use Rattle.std.proofs.lemmas.Result.{on_ok_weaker}
use Rattle.leg_output.specs.Words.{line}
use Rattle.leg_design_records.specs.Records.{blockage_said}
use Rattle.leg_output.specs.Text.Blockages.{blockage_words}
use Rattle.leg_print.proofs.SectionText.{section_pushed, section_of}
use Rattle.leg_print.proofs.blockages.push_blockages.Goals as goal

pub returns : goal.returns
returns g c =
    let design = c.args.design.now in
    on_ok_weaker c.push_section_end.result (λ last.
    section_pushed (codes "BLOCKAGES") (λ blockage. line (blockage_words design (blockage_said blockage))) c.args.blockages.now c.loop-blockage.blockage-index _
    c.push_section_start.new.text.items c.loop-blockage.text.items _
    (search rules) c.in_ok-push_section_start.ensures c.loop-blockage.invariant c.loop-blockage-test.false last
    ∙ ap (λ section. c.args.text.now.items ++ section)
    (sym (section_of (codes "BLOCKAGES") (λ blockage. line (blockage_words design blockage)) blockage_said c.args.blockages.now))) c.push_section_end.ensures
