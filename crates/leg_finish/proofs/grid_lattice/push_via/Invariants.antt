-- The parts of the via so far are of this level.
use Rattle.std.proofs.Common.{◌<◌, ℕ, All}
use Rattle.leg_finish.proofs.grid_lattice.push_via.Given as goal

abbrev pub invariant-loop-shape : goal.invariant-loop-shape
invariant-loop-shape g l =
    (levels : ℕ) → l.level < levels → All (λ part. part.level < levels) l.fn.parts.items → All (λ part. part.level < levels) l.parts.items
