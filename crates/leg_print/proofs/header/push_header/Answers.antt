use Rattle.std.proofs.Common.{◌++◌, codes, ap, ◌∙◌, rules}
use Rattle.std.proofs.lemmas.Result.{on_ok_weaker}
use Rattle.leg_output.specs.Words.{line}
use Rattle.leg_output.specs.Text.Header.{version_words, word_words, kept_line, units_words, die_words, naming_text, frame_text}
use Rattle.leg_print.proofs.Appends.{two_parts, three_parts}
use Rattle.leg_print.proofs.header.push_header.Goals as goal

pub returns : goal.returns
returns g c =
    let design = c.args.design.now in
    let version = c.push_line.new.text.items in
    let divider = c.push_kept_line.new.text.items in
    let bus = c.push_kept_line-2.new.text.items in
    let name = c.push_line-2.new.text.items in
    let units = c.push_units.new.text.items in
    on_ok_weaker c.push_die.result (λ last.
    two_parts _ bus _ (naming_text design) (frame_text design)
    (three_parts _ version divider bus (line version_words) (kept_line (codes "DIVIDERCHAR") design.divider) (kept_line (codes "BUSBITCHARS") design.bus)
    c.in_ok-push_line.ensures
    (c.in_ok-push_kept_line.ensures ∙ ap (λ word. version ++ kept_line (codes "DIVIDERCHAR") word) c.divider.ensures.is)
    (c.in_ok-push_kept_line-2.ensures ∙ ap (λ word. divider ++ kept_line (codes "BUSBITCHARS") word) c.bus.ensures.is))
    (three_parts bus name units _ (line (word_words (codes "DESIGN") design.name)) (line (units_words design.library.units)) (line (die_words design.die))
    (c.in_ok-push_line-2.ensures ∙ ap (λ word. bus ++ line (word_words (codes "DESIGN") word)) c.name.ensures.is)
    (search rules)
    (search rules))) c.push_die.ensures
