use Rattle.std.proofs.Common.{arith}
use Rattle.std.proofs.lemmas.Int.{ints}
use Rattle.leg_geom.proofs.Intervals.{HasAllNumbers-ends, HasNumber-high}
use Rattle.leg_geom.proofs.span.Span.contains.Goals as goal

pub returns-then-self-other : goal.returns-then-self-other
returns-then-self-other c =
    rw (← c.self.view_is, ← c.other.view_is) (
      λ t. HasAllNumbers-ends _ _ (omega (arith, ints)) (grind (arith, ints)),
      λ s. let m = (s _ (HasNumber-high _ c.other.invariant)).below in grind (arith, ints),
    )
