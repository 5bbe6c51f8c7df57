-- The candidates among the shapes so far.
use Rattle.leg_drc.specs.Steps.Candidates.{AreCandidates}
use Rattle.leg_drc.proofs.candidate.candidates.Given as goal

abbrev pub invariant-loop-k : goal.invariant-loop-k
invariant-loop-k g l = AreCandidates l.owners l.reaches l.shapes l.k l.found.items
