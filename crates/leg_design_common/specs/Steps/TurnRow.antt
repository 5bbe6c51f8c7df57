-- The numbers of a via in its orientations, by a table of rows.
use Rattle.std.specs.Prelude.{ℕ, nat_eq, Option, None, Some}
use Rattle.std.specs.HashMap.{HashMap, get_by}
use Rattle.leg_geom.specs.declared.orient.Orient.{Orient}
use Rattle.leg_geom.specs.declared.orient.Orient.TheVariants.{N, S, W, E, FN, FS, FW, FE}
use Rattle.leg_design_common.specs.declared.turn_table.TurnRow.{TurnRow}

abbrev pub no_row : TurnRow
no_row = record {
  north = None;
  south = None;
  west = None;
  east = None;
  flipped_north = None;
  flipped_south = None;
  flipped_west = None;
  flipped_east = None;
}

-- the number in an orientation
abbrev pub number_in : TurnRow → Orient → Option ℕ
number_in row N = row.north
number_in row S = row.south
number_in row W = row.west
number_in row E = row.east
number_in row FN = row.flipped_north
number_in row FS = row.flipped_south
number_in row FW = row.flipped_west
number_in row FE = row.flipped_east

-- the row with this number in an orientation
abbrev pub row_with : TurnRow → Orient → ℕ → TurnRow
row_with row N number = record row { north = Some number }
row_with row S number = record row { south = Some number }
row_with row W number = record row { west = Some number }
row_with row E number = record row { east = Some number }
row_with row FN number = record row { flipped_north = Some number }
row_with row FS number = record row { flipped_south = Some number }
row_with row FW number = record row { flipped_west = Some number }
row_with row FE number = record row { flipped_east = Some number }

-- the row of a via, which is that of a via that is not turned where there is none
abbrev pub row_or_none : Option TurnRow → TurnRow
row_or_none None = no_row
row_or_none (Some row) = row

-- the number of a via in an orientation, by the table
abbrev pub number_by : {S : Type 0} → HashMap ℕ TurnRow S → ℕ → Orient → Option ℕ
number_by rows via orient = number_in (row_or_none (get_by (nat_eq via) rows)) orient
