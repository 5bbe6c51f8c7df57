-- The parts so far have lost the sites.
use Rattle.leg_legal_sites.specs.Steps.Parts.{AreLostUpTo}
use Rattle.leg_legal_sites.proofs.take_parts.take_from_parts.Given as goal

abbrev pub invariant-loop-i : goal.invariant-loop-i
invariant-loop-i g l = AreLostUpTo l.from l.end l.i l.initial.parts l.parts
