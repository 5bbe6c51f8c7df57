use Rattle.std.proofs.Common.{◌≡◌, ◌++◌, length}
use Rattle.leg_polygon.specs.Slab.{runs}
use Rattle.leg_polygon.proofs.band.add_runs.Given as goal

abbrev pub invariant-runs : goal.invariant-runs
invariant-runs g l = l.slabs.items ++ runs l.band l.rest ≡ l.fn.slabs.items ++ runs l.band l.fn.edges

abbrev pub decreases-runs : goal.decreases-runs
decreases-runs g l = length l.rest
