-- The keys of rows that a walk over them has made.
use Rattle.std.specs.Prelude.{◌≡◌, ℕ, ◌<◌, List, length, Some, slice_get, All, AllPairs, Contains}
use Rattle.leg_design_records.specs.declared.records.Row.{Row}
use Rattle.leg_legal_sites.specs.declared.row_keys.RowKey.{RowKey}
use Rattle.leg_legal_sites.specs.Steps.RowOrder.{IsKeyOf}

-- the key of a row of this number
abbrev pub key_of : Row → ℕ → RowKey
key_of row number = record { site = row.site; y = row.at.y; x = row.at.x; row = number }

-- the keys of the rows whose numbers are below end, in file order
pub record AreKeysBelow (rows : List Row) (end : ℕ) (keys : List RowKey) : Type 0 where
  pub count : length keys ≡ end
  pub each : All (IsKeyOf rows) keys
  pub below : All (λ key. key.row < end) keys
  pub all : (number : ℕ) (row : Row) → number < end → slice_get rows number ≡ Some row → Contains keys (key_of row number)
  pub rising : AllPairs (λ a b. a.row < b.row) keys
