use Rattle.std.proofs.Common.{codes, rules}
use Rattle.std.proofs.lemmas.Result.{on_ok_weaker}
use Rattle.leg_output.specs.Words.{line}
use Rattle.leg_output.specs.Text.Vias.{via_words}
use Rattle.leg_print.proofs.SectionText.{section_pushed}
use Rattle.leg_print.proofs.vias.push_vias.Goals as goal

pub returns : goal.returns
returns g c =
    let design = c.args.design.now in
    on_ok_weaker c.push_section_end.result (λ last.
    section_pushed (codes "VIAS") (λ via. line (via_words design via)) c.args.vias.now c.loop-via.via-index _ c.push_section_start.new.text.items
    c.loop-via.text.items _
    (search rules) c.in_ok-push_section_start.ensures c.loop-via.invariant c.loop-via-test.false last) c.push_section_end.ensures
