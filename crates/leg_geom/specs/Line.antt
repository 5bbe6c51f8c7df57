-- Whole numbers along one axis: intervals, which rectangles are there, and where numbers stand in a list.
use Rattle.std.specs.Prelude.{◌≡◌, ℕ, ◌<◌, ◌≤◌, ℤ, ◌≤ℤ◌, int_lt, if◌then◌else◌, List, length, Some, slice_get}

-- an interval by its two ends
pub record Interval : Type 0 where
  pub low : ℤ
  pub high : ℤ

-- the interval between two numbers, in either order
abbrev pub between : ℤ → ℤ → Interval
between a b = record { low = if int_lt a b then a else b; high = if int_lt a b then b else a }

-- the places from the first to before the end are those of the values from low to high
pub record ArePlaces (values : List ℤ) (low high : ℤ) (first end : ℕ) : Type 0 where
  pub within : end ≤ length values
  pub low_in : (k : ℕ) (z : ℤ) → slice_get values k ≡ Some z → first ≤ k → low ≤ℤ z
  pub high_in : (k : ℕ) (z : ℤ) → slice_get values k ≡ Some z → k < end → z ≤ℤ high
  pub first_in : (k : ℕ) (z : ℤ) → slice_get values k ≡ Some z → low ≤ℤ z → first ≤ k
  pub end_in : (k : ℕ) (z : ℤ) → slice_get values k ≡ Some z → z ≤ℤ high → k < end
