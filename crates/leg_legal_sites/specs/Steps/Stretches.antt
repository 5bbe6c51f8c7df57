-- Free sites of one row, as stretches of sites by their numbers, which count from 0 at the row's left end (lefdef's own rule).
use Rattle.std.specs.Prelude.{◌≡◌, ◌↔◌, ◌⊎◌, ℕ, ◌+◌, ◌<◌, ◌≤◌, List, Some, slice_get, All, AllPairs}
use Rattle.leg_legal_sites.specs.declared.stretch.Stretch.{Stretch}

-- site k lies in one of the stretches
pub record IsFreeSite (free : List Stretch) (k : ℕ) : Type 0 where
  pub number : ℕ
  pub stretch : Stretch
  pub there : slice_get free number ≡ Some stretch
  pub above : stretch.from ≤ k
  pub below : k < stretch.end

-- this many consecutive sites, from the first on, are free
abbrev pub AreFreeSites : List Stretch → ℕ → ℕ → Type 0
AreFreeSites free many first = (k : ℕ) → first ≤ k → k < first + many → IsFreeSite free k

-- each stretch has a site, and they are ordered from left to right, with a site that isn't free between any two
pub record AreFreeStretches (free : List Stretch) : Type 0 where
  pub long : All (λ s. s.from < s.end) free
  pub apart : AllPairs (λ s t. s.end < t.from) free

-- the sites from one number up to another are free, and no others
pub record AreSitesBetween (from end : ℕ) (free : List Stretch) : Type 0 where
  pub are : AreFreeStretches free
  pub sites : (k : ℕ) → IsFreeSite free k ↔ ((from ≤ k) × (k < end))

-- the sites that are free once those from one number up to another are taken
pub record IsWithout (free : List Stretch) (from end : ℕ) (rest : List Stretch) : Type 0 where
  pub are : AreFreeStretches rest
  pub sites : (k : ℕ) → IsFreeSite rest k ↔ (IsFreeSite free k × ((k < from) ⊎ (end ≤ k)))
