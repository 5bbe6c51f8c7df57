use Rattle.std.proofs.Common.{ℤ, ◌∷◌, ◌++◌, ap, sym, ◌∙◌, rules, w64}
use Rattle.std.proofs.lemmas.Int.{to_z-of_z}
use Rattle.std.proofs.lemmas.Result.{on_ok_weaker}
use Rattle.leg_lex.specs.Words.{Words}
use Rattle.leg_output.specs.Words.{spaced}
use Rattle.leg_output.specs.Names.{layer_name}
use Rattle.leg_output.specs.Text.Wires.{width_words, point_words, given_extension, wire_words}
use Rattle.leg_print.proofs.Appends.{three_runs, same_run}
use Rattle.leg_print.proofs.wires.push_wire.Goals as goal

pub returns-in_ok-push_segment_end-in-Segment : goal.returns-in_ok-push_segment_end-in-Segment
returns-in_ok-push_segment_end-in-Segment g c =
    let design = c.args.design.now in
    let special = c.args.special in
    let s = c.in-Segment in
    let head : ℤ → Words = λ width. layer_name design s.layer ∷ width_words special width in
    let first : ℤ → Words = λ extension. point_words s.from (given_extension design.library special s.layer extension) in
    let second : ℤ → Words = λ extension. point_words s.to (given_extension design.library special s.layer extension) in
    on_ok_weaker c.push_segment_end-in-Segment.result (λ last.
    three_runs _ c.push_path_start.new.text.items c.push_segment_end.new.text.items _
    (head s.width) (first s.ext_from) (second s.ext_to)
    (same_run _ _ head _ s.width (to_z-of_z w64 s.width (search rules)) c.in_ok-push_path_start-in-Segment.ensures)
    (same_run _ _ first _ s.ext_from (to_z-of_z w64 s.ext_from (search rules)) c.in_ok-push_segment_end-in-Segment.ensures)
    (same_run _ _ second _ s.ext_to (to_z-of_z w64 s.ext_to (search rules)) last)
    ∙ ap (λ wire. c.args.text.now.items ++ spaced (wire_words design special wire)) (sym s.is)) c.push_segment_end-in-Segment.ensures
