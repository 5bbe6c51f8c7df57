-- The rules of layers, as records: in millionths of a micron as texts state them (raw), and in database units (LEF/DEF 5.8,
-- "Layer (Cut)", "Layer (Routing)").
use Rattle.std.specs.Prelude.{◌≡◌, ℤ, List, [], Option, None, Some, All}
use Rattle.leg_lex.specs.Number.{IsNumber}
use Rattle.leg_drc_rules.specs.declared.raw.RawLineEnd.{RawLineEnd}
use Rattle.leg_drc_rules.specs.declared.records.LineEnd.{LineEnd}

-- the spacings of shapes of more than a width, one for each run
pub record RowModel : Type 0 where
  pub width : ℤ
  pub values : List ℤ

-- runs, and rows with a value for each run
pub record TableModel : Type 0 where
  pub runs : List ℤ
  pub rows : List RowModel

-- the rules that the section of a layer states; the area in millionths of a square micron
pub record RawLayerRulesModel : Type 0 where
  pub area : Option ℤ
  pub width : Option ℤ
  pub net_spacing : Option ℤ
  pub table : Option TableModel
  pub line_ends : List RawLineEnd

-- no rules
abbrev pub no_rules : RawLayerRulesModel
no_rules = record { area = None; width = None; net_spacing = None; table = None; line_ends = [] }

-- the manufacturing grid, and the rules of each layer by its number, where a section of it was read
pub record RawDeckModel : Type 0 where
  pub grid : Option ℤ
  pub layers : List (Option RawLayerRulesModel)

-- the rules of a layer in database units, but for the area
pub record LayerRulesModel : Type 0 where
  pub area : Option ℤ
  pub width : ℤ
  pub net_spacing : ℤ
  pub table : Option TableModel
  pub line_ends : List LineEnd

-- the grid in millionths of a micron, and the rules of each layer by its number
pub record DeckModel : Type 0 where
  pub grid : Option ℤ
  pub layers : List LayerRulesModel

-- the spacings of a layer's rules are within the limit of numbers
pub record AreSpacingsWithin (rules : LayerRulesModel) : Type 0 where
  pub net : IsNumber rules.net_spacing
  pub table : (table : TableModel) → rules.table ≡ Some table → All (λ row. All IsNumber row.values) table.rows
