-- The parts so far are no longer.
use Rattle.leg_legal_sites.specs.Steps.Parts.{AreNoLonger}
use Rattle.leg_legal_sites.proofs.part_groups.longest_between.Given as goal

abbrev pub invariant-loop-i : goal.invariant-loop-i
invariant-loop-i g l = AreNoLonger l.parts l.from l.i l.longest
