use Rattle.std.proofs.Common.{arith}
use Rattle.std.proofs.lemmas.Int.{ints}
use Rattle.leg_flat.proofs.OutlineLines.{along_up, along_down}
use Rattle.leg_flat.proofs.outline.line_ends.Goals as goal

pub returns-then-from-to-clause-along : goal.returns-then-from-to-clause-along
returns-then-from-to-clause-along c = along_up _ _ _ _ _ _ (omega (arith, ints)) (omega (arith, ints)) (omega (arith, ints))

pub returns-else-from-to-clause-along : goal.returns-else-from-to-clause-along
returns-else-from-to-clause-along c = along_down _ _ _ _ _ _ (omega (arith, ints)) (omega (arith, ints)) (omega (arith, ints))
