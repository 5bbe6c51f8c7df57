use Rattle.std.proofs.Common.{codes, map}
use Rattle.std.proofs.lemmas.Result.{on_ok_weaker}
use Rattle.leg_output.specs.Text.Wires.{wire_words}
use Rattle.leg_print.proofs.Appends.{start_pushed}
use Rattle.leg_print.proofs.nets.push_wire_line.Goals as goal

pub returns : goal.returns
returns g c =
    on_ok_weaker c.push_wire.result (λ last.
    start_pushed _ c.push_start.new.text.items _ (codes "\n ") (map (λ word. word.now) c.args.words.now)
    (wire_words c.args.design.now c.args.special c.args.wire.now)
    c.in_ok-push_start.ensures last) c.push_wire.ensures
