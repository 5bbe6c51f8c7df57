use Rattle.std.proofs.Common.{arith}
use Rattle.std.proofs.lemmas.Int.{ints}
use Rattle.leg_geom.proofs.Intervals.{IsGap-before, IsGap-after, IsGap-meet}
use Rattle.leg_geom.proofs.span.Span.gap.Goals as goal

pub returns-then-self-other-clause-least : goal.returns-then-self-other-clause-least
returns-then-self-other-clause-least c =
    rw (← c.self.view_is, ← c.other.view_is)
    (IsGap-before _ _ _ c.self.invariant c.other.invariant (omega (arith, ints)) (omega (arith, ints)))

pub returns-else-other-self-clause-least : goal.returns-else-other-self-clause-least
returns-else-other-self-clause-least c =
    rw (← c.self.view_is, ← c.other.view_is)
    (IsGap-meet _ _ c.self.invariant c.other.invariant (omega (arith, ints)) (omega (arith, ints)))

pub returns-then-other-self-clause-least : goal.returns-then-other-self-clause-least
returns-then-other-self-clause-least c =
    rw (← c.self.view_is, ← c.other.view_is)
    (IsGap-after _ _ _ c.self.invariant c.other.invariant (omega (arith, ints)) (omega (arith, ints)))

pub returns-then-self-other-clause-small : goal.returns-then-self-other-clause-small
returns-then-self-other-clause-small c = omega (arith, ints)

pub returns-then-other-self-clause-small : goal.returns-then-other-self-clause-small
returns-then-other-self-clause-small c = omega (arith, ints)

pub returns-else-other-self-clause-small : goal.returns-else-other-self-clause-small
returns-else-other-self-clause-small c = omega arith
