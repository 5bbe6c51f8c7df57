use Rattle.std.proofs.Common.{◌≡◌, ◌+◌, take}
use Rattle.leg_rules.specs.Route.GridSize.{track_count}
use Rattle.leg_route_grid.proofs.size.are_too_many.Given as goal

abbrev pub invariant-loop-track : goal.invariant-loop-track
invariant-loop-track g l = l.left + track_count (take l.track-index l.tracks) ≡ l.limit
