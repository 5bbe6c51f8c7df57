-- None is free in the parts so far.
use Rattle.std.proofs.Common.{length}
use Rattle.leg_legal_sites.specs.Steps.Parts.{AreNoneFree}
use Rattle.leg_legal_sites.proofs.part_ends.last_ends.Given as goal

abbrev pub invariant-loop-i : goal.invariant-loop-i
invariant-loop-i g l = AreNoneFree l.parts l.i (length l.parts)
