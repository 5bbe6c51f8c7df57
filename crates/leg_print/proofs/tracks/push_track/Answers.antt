use Rattle.std.proofs.Common.{[], ◌∷◌, codes, rules}
use Rattle.std.specs.Fmt.{signed_decimal}
use Rattle.std.proofs.lemmas.Result.{on_ok_weaker}
use Rattle.leg_output.specs.Text.Tracks.{axis_word, layer_words}
use Rattle.leg_print.proofs.Appends.{entry_pushed}
use Rattle.leg_print.proofs.tracks.push_track.Goals as goal

pub returns : goal.returns
returns g c =
    let track = c.args.track.now in
    on_ok_weaker c.push_end.result (λ last.
    entry_pushed _ c.push_start.new.text.items c.push_layers.new.text.items _ (codes "TRACKS")
    (axis_word track.axis ∷ signed_decimal track.start ∷ codes "DO" ∷ signed_decimal track.count ∷ codes "STEP" ∷ signed_decimal track.step ∷ [])
    (layer_words c.args.design.now track.layers)
    (search rules) (search rules) last) c.push_end.ensures
