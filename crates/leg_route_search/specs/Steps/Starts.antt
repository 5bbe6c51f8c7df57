-- What a search knows of its starts.
use Rattle.std.specs.Prelude.{◌≡◌, ℕ, ◌<◌, ◌≤◌, List, length, get_or}

-- For each start a number of steps, of which from it to the ends no fewer are left. Where it is less than what is told, so is what is left.
pub record AreLeast (bound : ℕ → ℕ) (starts : List ℕ) (told : ℕ) (least : List ℕ) : Type 0 where
  pub one_each : length least ≡ length starts
  pub each : (k : ℕ) → k < length starts → get_or least k 0 ≤ bound (get_or starts k 0)
  pub told_near : (k : ℕ) → k < length starts → get_or least k 0 < told → bound (get_or starts k 0) < told
