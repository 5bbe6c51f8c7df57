-- The roots so far are those of the first numbers.
use Rattle.std.proofs.Common.{◌≡◌, drop}
use Rattle.leg_wire.specs.Steps.NumberSets.{roots_after, roots_of}
use Rattle.leg_wire.proofs.sets.Sets.roots.Given as goal

abbrev pub invariant-loop-parent : goal.invariant-loop-parent
invariant-loop-parent g l = roots_after l.roots.items (drop l.parent-index l.parents) ≡ roots_of l.parents
