use Rattle.std.proofs.Common.{codes, rules}
use Rattle.std.specs.List.{flat_map}
use Rattle.std.proofs.lemmas.Result.{on_ok_weaker}
use Rattle.leg_output.specs.Text.Blockages.{blocked_layer_words, rect_words}
use Rattle.leg_print.proofs.Appends.{entry_pushed}
use Rattle.leg_print.proofs.blockages.push_entry.Goals as goal

pub returns : goal.returns
returns g c =
    on_ok_weaker c.push_end.result (λ last.
    entry_pushed _ c.push_blocked_layer.new.text.items c.push_rects.new.text.items _ (codes "-")
    (blocked_layer_words c.args.design.now c.args.layer) (flat_map rect_words c.args.rects.now)
    (search rules) (search rules) last) c.push_end.ensures
