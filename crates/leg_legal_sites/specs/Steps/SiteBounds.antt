-- Numbers that bound the free sites of some rows (lefdef's own rule).
use Rattle.std.specs.Prelude.{ℕ, pos, ◌+◌, ◌≤◌, ◌+ℤ◌, ◌*ℤ◌, ◌≤ℤ◌, List}
use Rattle.leg_lib_records.specs.Measure.{ExtentModel}
use Rattle.leg_design_records.specs.declared.records.Row.{Row}
use Rattle.leg_legal_sites.specs.declared.stretch.Stretch.{Stretch}
use Rattle.leg_legal_sites.specs.declared.bounds.Bounds.{Bounds}
use Rattle.leg_legal_sites.specs.Steps.Stretches.{IsFreeSite, AreFreeSites}

-- the numbers bound site k of the row of this number, of sites of this size
pub record DoBoundSite (bounds : Bounds) (number : ℕ) (row : Row) (size : ExtentModel) (k : ℕ) : Type 0 where
  pub least_row : bounds.least_row ≤ number
  pub least_site : bounds.least_site ≤ row.site
  pub most_site : row.site ≤ bounds.most_site
  pub low : bounds.low ≤ℤ row.at.y
  pub high : row.at.y ≤ℤ bounds.high
  pub top : (row.at.y +ℤ size.height) ≤ℤ bounds.top
  pub left : bounds.left ≤ℤ (row.at.x +ℤ pos k *ℤ size.width)
  pub right : (row.at.x +ℤ pos (k + 1) *ℤ size.width) ≤ℤ bounds.right
  pub corner : bounds.corner ≤ℤ ((row.at.x +ℤ pos k *ℤ size.width) +ℤ row.at.y)

-- they bound each free site of the row, and no more consecutive ones are free than they say
pub record DoBound (bounds : Bounds) (number : ℕ) (row : Row) (size : ExtentModel) (free : List Stretch) : Type 0 where
  pub sites : (k : ℕ) → IsFreeSite free k → DoBoundSite bounds number row size k
  pub longest : (many first : ℕ) → AreFreeSites free many first → many ≤ bounds.longest
