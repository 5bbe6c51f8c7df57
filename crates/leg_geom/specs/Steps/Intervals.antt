-- What the tests of rectangles ask along one axis.
use Rattle.std.specs.Prelude.{◌≡◌, ℕ, ◌≤◌, ℤ, ◌≤ℤ◌, ◌<ℤ◌}
use Rattle.leg_geom.specs.Plane.{IsCoordinate}
use Rattle.leg_geom.specs.Gap.{apart}
use Rattle.leg_geom.specs.Line.{Interval}

-- an interval has length, and its ends are within the limit
pub record IsSpan (s : Interval) : Type 0 where
  pub low : IsCoordinate s.low
  pub high : IsCoordinate s.high
  pub long : s.low <ℤ s.high

-- the number lies in the interval, whose ends belong to it
pub record HasNumber (s : Interval) (z : ℤ) : Type 0 where
  pub above : s.low ≤ℤ z
  pub below : z ≤ℤ s.high

-- the step from the number to the next one lies in the interval
pub record HasStep (s : Interval) (z : ℤ) : Type 0 where
  pub above : s.low ≤ℤ z
  pub below : z <ℤ s.high

-- some number lies in both intervals
pub record ShareNumber (a b : Interval) : Type 0 where
  pub number : ℤ
  pub in_a : HasNumber a number
  pub in_b : HasNumber b number

-- some step lies in both intervals
pub record ShareStep (a b : Interval) : Type 0 where
  pub step : ℤ
  pub in_a : HasStep a step
  pub in_b : HasStep b step

-- each number of the second interval is one of the first
abbrev pub HasAllNumbers : Interval → Interval → Type 0
HasAllNumbers a b = (z : ℤ) → HasNumber b z → HasNumber a z

-- n is the least difference between a number of the one interval and one of the other
pub record IsGap (a b : Interval) (n : ℕ) : Type 0 where
  pub p : ℤ
  pub q : ℤ
  pub in_a : HasNumber a p
  pub in_b : HasNumber b q
  pub is : apart p q ≡ n
  pub least : (s t : ℤ) → HasNumber a s → HasNumber b t → n ≤ apart s t
