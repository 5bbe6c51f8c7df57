use Rattle.std.proofs.Common.{◌≡◌, length}
use Rattle.leg_c_memory.proofs.free.FreeParts.take.Given as goal

abbrev pub invariant-loop-part : goal.invariant-loop-part
invariant-loop-part l = (l.below.object ≡ l.fn.self.above.object) × (l.above.object ≡ l.fn.self.above.object)

abbrev pub decreases-loop-part : goal.decreases-loop-part
decreases-loop-part l = length l.above.spans
