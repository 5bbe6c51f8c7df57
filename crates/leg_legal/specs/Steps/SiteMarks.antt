-- Sites that rows have, and marks of them.
use Rattle.std.specs.Prelude.{◌≡◌, ◌↔◌, ℕ, ◌<◌, Bool, true, List, length, Contains, Some, slice_get}
use Rattle.leg_design_records.specs.Records.{DesignModel}
use Rattle.leg_design_records.specs.declared.records.Row.{Row}

-- one of the rows has the site of this number
pub record HasRow (rows : List Row) (number : ℕ) : Type 0 where
  pub row : Row
  pub has : Contains rows row
  pub same : row.site ≡ number

-- one of the rows of a number below end has it
pub record HasRowBelow (rows : List Row) (end number : ℕ) : Type 0 where
  pub place : ℕ
  pub below : place < end
  pub row : Row
  pub there : slice_get rows place ≡ Some row
  pub same : row.site ≡ number

-- a mark for each site of the library, whether one of the rows of a number below end has it
pub record AreSiteMarksBelow (design : DesignModel) (end : ℕ) (marks : List Bool) : Type 0 where
  pub count : length marks ≡ length design.library.sites
  pub each : (number : ℕ) → (slice_get marks number ≡ Some true) ↔ HasRowBelow design.rows end number

-- a mark for each site of the library, whether a row has it
pub record AreSiteMarks (design : DesignModel) (marks : List Bool) : Type 0 where
  pub count : length marks ≡ length design.library.sites
  pub each : (number : ℕ) → (slice_get marks number ≡ Some true) ↔ HasRow design.rows number
