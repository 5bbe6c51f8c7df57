-- The violations of the pairs so far.
use Rattle.std.proofs.Common.{◌≡◌, ◌++◌, map, take}
use Rattle.leg_drc.specs.Steps.Kinds.{pair_fault}
use Rattle.leg_drc.proofs.faults.push_pairs.Given as goal

abbrev pub invariant-loop-first : goal.invariant-loop-first
invariant-loop-first g l = l.found.items ≡ l.initial.found.items ++ map (λ p. pair_fault l.kind p.0 p.1) (take l.first-index l.pairs)
