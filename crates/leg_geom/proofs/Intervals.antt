-- Intervals of whole numbers by comparisons of their ends.
use Rattle.std.proofs.Common.{◌≡◌, ℕ, ℤ, ◌≤ℤ◌, ◌<ℤ◌, ◌-ℤ◌, unsigned_abs, arith}
use Rattle.std.proofs.lemmas.Int.{ints, by_lt_z}
use Rattle.leg_geom.specs.Gap.{gap_between}
use Rattle.leg_geom.specs.Line.{Interval}
use Rattle.leg_geom.specs.Steps.Intervals.{IsSpan, HasNumber, ShareNumber, ShareStep, HasAllNumbers, IsGap}

-- an interval has its two ends
pub HasNumber-low : (a : Interval) → IsSpan a → HasNumber a a.low
HasNumber-low a s = record { above = omega (arith, ints); below = omega (arith, ints) }

pub HasNumber-high : (a : Interval) → IsSpan a → HasNumber a a.high
HasNumber-high a s = record { above = omega (arith, ints); below = omega (arith, ints) }

-- intervals that begin before the other ends share the first step of the one that begins later
pub ShareStep-begin : (a b : Interval) → IsSpan a → IsSpan b → a.low <ℤ b.high → b.low <ℤ a.high → ShareStep a b
ShareStep-begin a b sa sb l r =
    by_lt_z a.low b.low
    (λ h. record {
      step = b.low;
      in_a = record { above = omega (arith, ints); below = r };
      in_b = record { above = omega (arith, ints); below = sb.long };
    })
    (λ h. record {
      step = a.low;
      in_a = record { above = omega (arith, ints); below = sa.long };
      in_b = record { above = h; below = l };
    })

-- intervals that begin no later than the other ends share the first number of the one that begins later
pub ShareNumber-begin : (a b : Interval) → IsSpan a → IsSpan b → a.low ≤ℤ b.high → b.low ≤ℤ a.high → ShareNumber a b
ShareNumber-begin a b sa sb l r =
    by_lt_z a.low b.low
    (λ h. record {
      number = b.low;
      in_a = record { above = omega (arith, ints); below = r };
      in_b = HasNumber-low b sb;
    })
    (λ h. record {
      number = a.low;
      in_a = HasNumber-low a sa;
      in_b = record { above = h; below = l };
    })

-- intervals share a step where two different numbers lie in both
pub ShareStep-numbers : (a b : Interval) (s t : ℤ) → HasNumber a s → HasNumber b s → HasNumber a t → HasNumber b t → s <ℤ t → ShareStep a b
ShareStep-numbers a b s t sa sb ta tb h = record {
  step = s;
  in_a = record { above = sa.above; below = omega (arith, ints) };
  in_b = record { above = sb.above; below = omega (arith, ints) };
}

pub HasAllNumbers-ends : (a b : Interval) → a.low ≤ℤ b.low → b.high ≤ℤ a.high → HasAllNumbers a b
HasAllNumbers-ends a b l h z m = record { above = omega (arith, ints); below = omega (arith, ints) }

pub IsGap-before : (a b : Interval) (n : ℕ) → IsSpan a → IsSpan b → a.high <ℤ b.low → n ≡ unsigned_abs (b.low -ℤ a.high) → IsGap a b n
IsGap-before a b n sa sb h e = record {
  p = a.high;
  q = b.low;
  in_a = HasNumber-high a sa;
  in_b = HasNumber-low b sb;
  is = omega (arith, ints);
  least = λ s t m k. omega (arith, ints);
}

pub IsGap-after : (a b : Interval) (n : ℕ) → IsSpan a → IsSpan b → b.high <ℤ a.low → n ≡ unsigned_abs (a.low -ℤ b.high) → IsGap a b n
IsGap-after a b n sa sb h e = record {
  p = a.low;
  q = b.high;
  in_a = HasNumber-low a sa;
  in_b = HasNumber-high b sb;
  is = omega (arith, ints);
  least = λ s t m k. omega (arith, ints);
}

-- intervals that meet have a common number
pub IsGap-meet : (a b : Interval) → IsSpan a → IsSpan b → b.low ≤ℤ a.high → a.low ≤ℤ b.high → IsGap a b 0
IsGap-meet a b sa sb l r =
    by_lt_z a.low b.low
    (λ h. record {
      p = b.low;
      q = b.low;
      in_a = record { above = omega (arith, ints); below = l };
      in_b = HasNumber-low b sb;
      is = omega (arith, ints);
      least = λ s t m k. omega arith;
    })
    (λ h. record {
      p = a.low;
      q = a.low;
      in_a = HasNumber-low a sa;
      in_b = record { above = h; below = r };
      is = omega (arith, ints);
      least = λ s t m k. omega arith;
    })

pub IsGap-gap_between : (a b : Interval) → IsSpan a → IsSpan b → IsGap a b (gap_between a.low a.high b.low b.high)
IsGap-gap_between a b sa sb =
    by_lt_z a.high b.low
    (λ h. IsGap-before a b _ sa sb h (grind (arith, ints)))
    (λ m.
    by_lt_z b.high a.low
    (λ h. IsGap-after a b _ sa sb h (grind (arith, ints)))
    (λ k.
    let e : gap_between a.low a.high b.low b.high ≡ 0 = grind (arith, ints) in
    rw e (IsGap-meet a b sa sb m k)))
