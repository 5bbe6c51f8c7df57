-- Shapes that are nearer than a table of spacings asks for (LEF/DEF 5.8, "Layer (Routing)", on SPACINGTABLE; how wide a shape is, and how long two
-- run beside one another, are lefdef's own rules).
use Rattle.std.specs.Prelude.{◌≡◌, ℕ, ℤ, pos, int_lt, if◌then◌else◌, List, [], ◌∷◌, Option, None, Some, slice_get, unsigned_abs}
use Rattle.std.specs.Int.{int_max}
use Rattle.leg_geom.specs.Plane.{RectModel, SharePoint}
use Rattle.leg_lib_records.specs.Records.{LibraryModel}
use Rattle.leg_rules.specs.declared.shape.Shape.{Shape}
use Rattle.leg_rules.specs.Spacing.Comparable.{AreComparable}
use Rattle.leg_rules.specs.Spacing.Violations.{AreNearer, AreTooNear}
use Rattle.leg_drc_rules.specs.Records.{RowModel, TableModel, LayerRulesModel, DeckModel}
use Rattle.leg_drc.specs.Sides.{lesser_side, parallel_run}

-- the value at the last of these runs that lies below this one; this value where there is none
abbrev pub value_behind : ℤ → ℤ → List ℤ → List ℤ → ℤ
value_behind run value [] values = value
value_behind run value (below ∷ runs) [] = value
value_behind run value (below ∷ runs) (other ∷ values) = value_behind run (if int_lt below run then other else value) runs values

-- the value of a row for a run: that of the last run of the table that lies below, else the first
abbrev pub value_for : ℤ → List ℤ → List ℤ → ℤ
value_for run runs [] = pos 0
value_for run runs (value ∷ values) = value_behind run value runs (value ∷ values)

-- the last of these rows whose width lies below this one; this row where there is none
abbrev pub row_behind : ℤ → RowModel → List RowModel → RowModel
row_behind width row [] = row
row_behind width row (other ∷ rows) = row_behind width (if int_lt other.width width then other else row) rows

-- the value of a table for a width and a run: that of the last row whose width lies below, else of the first
abbrev pub table_value : TableModel → ℤ → ℤ → ℤ
table_value table width run = by table.rows where
  by : List RowModel → ℤ
  by [] = pos 0
  by (row ∷ rows) = value_for run table.runs (row_behind width row rows).values

-- the distance that a table asks of two rectangles: by the width of the wider one and by their parallel run
unfoldable pub table_spacing : TableModel → RectModel → RectModel → ℕ
table_spacing table a b = unsigned_abs (table_value table (int_max (lesser_side a) (lesser_side b)) (parallel_run a b))

-- the table of a layer, where its rules have one
abbrev pub layer_table : DeckModel → ℕ → Option TableModel
layer_table deck layer = by (slice_get deck.layers layer) where
  by : Option LayerRulesModel → Option TableModel
  by None = None
  by (Some rules) = rules.table

-- Two comparable shapes share no point, are as far apart as the layer's spacing, and lie nearer than its table asks for.
pub record AreNearerThanTable (library : LibraryModel) (deck : DeckModel) (a b : Shape) : Type 0 where
  pub table : TableModel
  pub comparable : AreComparable a b
  pub apart : ¬ SharePoint a.rect b.rect
  pub other : ¬ AreTooNear library a b
  pub has_table : layer_table deck a.layer ≡ Some table
  pub near : AreNearer (table_spacing table a.rect b.rect) a.rect b.rect
