use Rattle.leg_route_grid.proofs.GridParts.{AreFirstTracks}
use Rattle.leg_route_grid.proofs.grid.all_track_marks.Given as goal

abbrev pub invariant-loop-k : goal.invariant-loop-k
invariant-loop-k g l = AreFirstTracks l.design l.layers l.xs l.ys l.k l.tracks.items
