use Rattle.std.proofs.Common.{◌≡◌, ℕ, ◌<◌, get_or}
use Rattle.leg_design_records.specs.Records.{TrackModel}
use Rattle.leg_compare.proofs.lists.are_same_tracks.Given as goal

abbrev pub invariant-loop-i : goal.invariant-loop-i
invariant-loop-i g l = (k : ℕ) (d e : TrackModel) → k < l.i → get_or l.a k d ≡ get_or l.b k e
