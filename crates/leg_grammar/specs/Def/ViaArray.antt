-- Arrays of vias in the paths of SPECIALNETS (LEF/DEF 5.8, "Special Wiring Statement"; how many vias there may be is lefdef's
-- own rule).
use Rattle.std.specs.Prelude.{ℕ, zero, suc, ℤ, ◌+ℤ◌, ◌*◌, not, nat_le, ◌==◌, List, [], ◌∷◌, ◌++◌, Option, Some, unsigned_abs, codes}
use Rattle.leg_lex.specs.Words.{Words, ◌>>=◌, keyword_at, whole_at}
use Rattle.leg_geom.specs.Plane.{PointModel}
use Rattle.leg_grammar.specs.declared.via_array.ViaArray.{ViaArray}
use Rattle.leg_design_records.specs.declared.limits.TheConstants.{PART_LIMIT}
use Rattle.leg_design_records.specs.declared.records.Wire.{Wire}
use Rattle.leg_design_records.specs.declared.records.Wire.TheVariants.{ViaAt}
use Rattle.leg_grammar.specs.Def.Guard.{when, is_within}
use Rattle.leg_grammar.specs.Def.Count.{count_at}

-- a number of at least 1
unfoldable pub number_from_one : Words → Option (ℕ × Words)
number_from_one words = do
  number ← count_at words
  some ← when (not (unsigned_abs number.0 == 0))
  Some (unsigned_abs number.0, number.1)

-- DO columns BY rows STEP x y, with no more vias than all nets may have wires
unfoldable pub array_at : Words → Option (ViaArray × Words)
array_at words = do
  start ← keyword_at (codes "DO") words
  columns ← number_from_one start.1
  by ← keyword_at (codes "BY") columns.1
  rows ← number_from_one by.1
  few ← when (nat_le (columns.0 * rows.0) PART_LIMIT)
  step ← keyword_at (codes "STEP") rows.1
  x ← whole_at step.1
  y ← whole_at x.1
  Some (record { columns = columns.0; rows = rows.0; x_step = x.0; y_step = y.0 }, y.1)

-- vias of this number in a row, the first at this point and each at the step from the one before; none lies beyond the
-- limit of numbers
unfoldable pub row_vias : ℕ → ℤ → ℕ → PointModel → Option (List Wire)
row_vias via step zero at = Some []
row_vias via step (suc n) at = do
  within ← when (is_within at.x)
  others ← row_vias via step n (record { x = at.x +ℤ step; y = at.y })
  Some (ViaAt via at ∷ others)

-- rows of an array, the first from this point and each at the step above the one before
unfoldable pub rows_vias : ℕ → ViaArray → ℕ → PointModel → Option (List Wire)
rows_vias via array zero at = Some []
rows_vias via array (suc n) at = do
  within ← when (is_within at.y)
  row ← row_vias via array.x_step array.columns at
  others ← rows_vias via array n (record { x = at.x; y = at.y +ℤ array.y_step })
  Some (row ++ others)

-- all vias of an array from its first point
abbrev pub array_vias : ℕ → ViaArray → PointModel → Option (List Wire)
array_vias via array at = rows_vias via array array.rows at
