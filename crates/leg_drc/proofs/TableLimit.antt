-- What tables ask for is within the limit of numbers.
use Rattle.std.proofs.Common.{◌≡◌, ◌≤◌, ℕ, Bor, Option, None, Some, option_map, slice_get, All, unsigned_abs, sym, refl}
use Rattle.std.specs.Option.{IfSome}
use Rattle.std.proofs.lemmas.List.Elements.{All-weaker}
use Rattle.std.proofs.lemmas.Option.{none-some}
use Rattle.leg_lex.specs.declared.limits.TheConstants.{NUMBER_LIMIT}
use Rattle.leg_lex.specs.Number.{IsNumber}
use Rattle.leg_lemmas.proofs.Places.{all_at}
use Rattle.leg_drc_rules.specs.Records.{RowModel, TableModel, LayerRulesModel, DeckModel, AreSpacingsWithin}
use Rattle.leg_drc.specs.Table.{layer_table}
use Rattle.leg_drc.specs.Steps.Reach.{row_reach, table_reach}
use Rattle.leg_drc.proofs.Greatest.{greatest_within}

row_limit : (row : RowModel) → All IsNumber row.values → row_reach row ≤ NUMBER_LIMIT
row_limit row each = greatest_within unsigned_abs NUMBER_LIMIT row.values each

table_limit : (rules : LayerRulesModel) (table : TableModel) → AreSpacingsWithin rules → rules.table ≡ Some table → table_reach table ≤ NUMBER_LIMIT
table_limit rules table are has =
    greatest_within row_reach NUMBER_LIMIT table.rows
    (All-weaker (λ row. All IsNumber row.values) (λ row. row_reach row ≤ NUMBER_LIMIT) row_limit table.rows (are.table table has))

-- the table of a layer
table_at : (deck : DeckModel) (layer : ℕ) (table : TableModel) → All AreSpacingsWithin deck.layers → layer_table deck layer ≡ Some table
    → table_reach table ≤ NUMBER_LIMIT
table_at deck layer table each has = by (slice_get deck.layers layer) refl where
  by : (o : Option LayerRulesModel) → slice_get deck.layers layer ≡ o → table_reach table ≤ NUMBER_LIMIT
  by None there = absurd (none-some table (rw there at has))
  by (Some rules) there = table_limit rules table (all_at AreSpacingsWithin deck.layers layer rules each there) (rw there at has)

pub got_within : (deck : DeckModel) (layer : ℕ) (got : Option (Bor TableModel)) → All AreSpacingsWithin deck.layers
    → option_map (λ table. table.now) got ≡ layer_table deck layer → IfSome got (λ table. table_reach table.now ≤ NUMBER_LIMIT)
got_within deck layer None each is = tt
got_within deck layer (Some table) each is = table_at deck layer table.now each (sym is)
