-- The rows of a design by their sites, and those of one site from the lowest one up (lefdef's own rule).
use Rattle.std.specs.Prelude.{◌≡◌, ◌⊎◌, ◌↔◌, ◌<◌, ◌<ℤ◌, List, Some, slice_get, AllPairs, Contains}
use Rattle.leg_design_records.specs.declared.records.Row.{Row}
use Rattle.leg_legal_sites.specs.declared.row_keys.RowKey.{RowKey}

-- the number of a row, the number of its site, and its lower left corner
pub record IsKeyOf (rows : List Row) (key : RowKey) : Type 0 where
  pub row : Row
  pub there : slice_get rows key.row ≡ Some row
  pub site : key.site ≡ row.site
  pub bottom : key.y ≡ row.at.y
  pub left : key.x ≡ row.at.x

-- the first row begins further to the left, or as far and has the lower number
abbrev pub IsBeforeAlongX : RowKey → RowKey → Type 0
IsBeforeAlongX a b = (a.x <ℤ b.x) ⊎ ((a.x ≡ b.x) × (a.row < b.row))

-- it is lower, or as low and stands before the other along x
abbrev pub IsBeforeAlongY : RowKey → RowKey → Type 0
IsBeforeAlongY a b = (a.y <ℤ b.y) ⊎ ((a.y ≡ b.y) × IsBeforeAlongX a b)

-- it has the site of the lower number, or the same one and stands before the other along y
abbrev pub IsBefore : RowKey → RowKey → Type 0
IsBefore a b = (a.site < b.site) ⊎ ((a.site ≡ b.site) × IsBeforeAlongY a b)

-- the keys of all rows, in increasing order
pub record IsRowOrder (rows : List Row) (order : List RowKey) : Type 0 where
  pub rising : AllPairs IsBefore order
  pub keys : (key : RowKey) → Contains order key ↔ IsKeyOf rows key
