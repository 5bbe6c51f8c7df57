-- The numbers of the pairs so far.
use Rattle.std.proofs.Common.{◌≡◌, map, take}
use Rattle.leg_drc.specs.Steps.Candidates.{numbers_in}
use Rattle.leg_drc.proofs.candidate.shape_numbers.Given as goal

abbrev pub invariant-loop-i : goal.invariant-loop-i
invariant-loop-i g l = l.numbers.items ≡ map (numbers_in l.candidates) (take l.i-index l.pairs)
