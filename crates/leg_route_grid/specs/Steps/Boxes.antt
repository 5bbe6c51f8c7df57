-- The box of some rows and columns of a layer.
use Rattle.std.specs.Prelude.{◌≡◌, ℕ, ◌+◌, ◌<◌, List, ◌++◌, All, Contains}
use Rattle.leg_route_grid.specs.declared.slot_box.SlotBox.{SlotBox}

-- there are such rows and columns, from the first to before the end, and the box is that of their slots
pub record IsBoxAt (layer : ℕ) (rows columns : ℕ × ℕ) (ends : SlotBox) : Type 0 where
  pub some_rows : rows.0 < rows.1
  pub some_columns : columns.0 < columns.1
  pub low_layer : ends.low.layer ≡ layer
  pub high_layer : ends.high.layer ≡ layer
  pub low_row : ends.low.row ≡ rows.0
  pub high_row : ends.high.row + 1 ≡ rows.1
  pub low_column : ends.low.column ≡ columns.0
  pub high_column : ends.high.column + 1 ≡ columns.1

-- the boxes have got that of these rows and columns, where there are any
pub record HaveGotBox (layer : ℕ) (rows columns : ℕ × ℕ) (before after : List SlotBox) : Type 0 where
  pub more : List SlotBox
  pub are : after ≡ before ++ more
  pub each : All (IsBoxAt layer rows columns) more
  pub some : rows.0 < rows.1 → columns.0 < columns.1 → (ends : SlotBox) × Contains more ends
