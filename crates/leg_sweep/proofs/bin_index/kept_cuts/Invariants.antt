-- At least one cut is kept.
use Rattle.std.proofs.Common.{◌≤◌, ◌<◌, length}
use Rattle.leg_sweep.proofs.bin_index.kept_cuts.Given as goal

abbrev pub invariant-loop-kept : goal.invariant-loop-kept
invariant-loop-kept l = record {
  some : 0 < l.kept;
  few : l.kept ≤ length l.cuts;
}

abbrev pub decreases-loop-kept : goal.decreases-loop-kept
decreases-loop-kept l = l.kept
