-- How far apart two shapes of a layer can be of which a rule of pairs holds.
use Rattle.std.specs.Prelude.{ℕ, max, List, [], ◌∷◌, Option, None, Some, slice_get, unsigned_abs}
use Rattle.leg_lib_records.specs.declared.records.Layer.{Layer}
use Rattle.leg_lib_records.specs.declared.records.LayerKind.{LayerKind}
use Rattle.leg_lib_records.specs.declared.records.LayerKind.TheVariants.{Routing, Cut, Other}
use Rattle.leg_lib_records.specs.Records.{LibraryModel}
use Rattle.leg_drc_rules.specs.Records.{RowModel, TableModel, LayerRulesModel, DeckModel}
use Rattle.leg_drc.specs.Table.{layer_table}

-- the greatest value of a function on the elements, and 0 where there are none
abbrev pub greatest_by : {X : Type 0} → (X → ℕ) → List X → ℕ
greatest_by f [] = 0
greatest_by f (x ∷ xs) = max (f x) (greatest_by f xs)

abbrev pub row_reach : RowModel → ℕ
row_reach row = greatest_by unsigned_abs row.values

-- the greatest distance that a table asks for
abbrev pub table_reach : TableModel → ℕ
table_reach table = greatest_by row_reach table.rows

abbrev pub table_reach_on : DeckModel → ℕ → ℕ
table_reach_on deck layer = by (layer_table deck layer) where
  by : Option TableModel → ℕ
  by None = 0
  by (Some table) = table_reach table

abbrev pub net_spacing_on : DeckModel → ℕ → ℕ
net_spacing_on deck layer = by (slice_get deck.layers layer) where
  by : Option LayerRulesModel → ℕ
  by None = 0
  by (Some rules) = unsigned_abs rules.net_spacing

-- the spacing within a net of a layer of cuts, and 0 on another layer
abbrev pub cut_reach : LibraryModel → DeckModel → ℕ → ℕ
cut_reach library deck number = by (slice_get library.layers number) where
  of_kind : LayerKind → ℕ
  of_kind Cut = net_spacing_on deck number
  of_kind (Routing direction width) = 0
  of_kind Other = 0

  by : Option Layer → ℕ
  by None = 0
  by (Some layer) = of_kind layer.kind
