-- The parts so far are of levels of the grid.
use Rattle.std.proofs.Common.{◌<◌, All, length}
use Rattle.leg_finish.proofs.grid_lattice.parts_of.Given as goal

abbrev pub invariant-loop-level : goal.invariant-loop-level
invariant-loop-level g l = All (λ part. part.level < length l.grid.layers) l.parts.items
