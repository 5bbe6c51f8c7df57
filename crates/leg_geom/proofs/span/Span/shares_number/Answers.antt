use Rattle.std.proofs.Common.{arith}
use Rattle.std.proofs.lemmas.Int.{ints}
use Rattle.leg_geom.proofs.Intervals.{ShareNumber-begin}
use Rattle.leg_geom.proofs.span.Span.shares_number.Goals as goal

pub returns-then-self-other : goal.returns-then-self-other
returns-then-self-other c =
    rw (← c.self.view_is, ← c.other.view_is) (
      λ t. ShareNumber-begin _ _ c.self.invariant c.other.invariant (omega (arith, ints)) (grind (arith, ints)),
      λ s. let m = s.in_a.below in let k = s.in_b.above in grind (arith, ints),
    )
