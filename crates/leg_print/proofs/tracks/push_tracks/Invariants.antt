use Rattle.std.proofs.Common.{◌≡◌, ◌++◌, take}
use Rattle.std.specs.List.{flat_map}
use Rattle.leg_output.specs.Words.{line}
use Rattle.leg_output.specs.Text.Tracks.{track_words}
use Rattle.leg_print.proofs.tracks.push_tracks.Given as goal

abbrev pub invariant-loop-track : goal.invariant-loop-track
invariant-loop-track g l = l.text.items ≡ l.fn.text.items ++ flat_map (λ track. line (track_words l.design track)) (take l.track-index l.tracks)
