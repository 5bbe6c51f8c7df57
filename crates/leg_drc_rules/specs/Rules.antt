-- The rules that the statements of a layer state (LEF/DEF 5.8, "Layer (Cut)", "Layer (Routing)"; that the first
-- statement of a form counts is lefdef's own rule).
use Rattle.std.specs.Prelude.{if◌then◌else◌, List, [], ◌∷◌, ◌++◌, drop, Option, Some}
use Rattle.leg_lex.specs.Words.{Words, ◌>>=◌}
use Rattle.leg_lex.specs.Until.{over}
use Rattle.leg_lib_records.specs.declared.records.LayerKind.{LayerKind}
use Rattle.leg_lib_records.specs.declared.records.LayerKind.TheVariants.{Routing, Cut, Other}
use Rattle.leg_drc_rules.specs.declared.form.Form.TheVariants.{Area, Width, NetSpacing, CutNetSpacing, Table, LineEnd}
use Rattle.leg_drc_rules.specs.declared.raw.RawLineEnd.{RawLineEnd}
use Rattle.leg_drc_rules.specs.Amount.{amount_at, amount_of_any}
use Rattle.leg_drc_rules.specs.Forms.{is_form, first_of}
use Rattle.leg_drc_rules.specs.Table.{table_of_any}
use Rattle.leg_drc_rules.specs.Records.{RawLayerRulesModel, no_rules}

-- SPACING spacing ENDOFLINE width WITHIN within
unfoldable pub line_end_in : Words → Option RawLineEnd
line_end_in statement = do
  spacing ← amount_at (drop 1 statement)
  width ← amount_at (drop 1 spacing.1)
  within ← amount_at (drop 1 width.1)
  Some (record { spacing = spacing.0; width = width.0; within = within.0 })

-- a statement of an end of line is one more; any other is none
unfoldable pub with_line_end : List RawLineEnd → Words → Option (List RawLineEnd)
with_line_end line_ends statement =
    if is_form LineEnd statement then (line_end_in statement >>= λ line_end. Some (line_ends ++ line_end ∷ []))
    else Some line_ends

-- a routing layer: each end of line counts, and of any other form the first statement
unfoldable pub routing_rules : List Words → Option RawLayerRulesModel
routing_rules statements = do
  area ← amount_of_any (first_of Area statements)
  width ← amount_of_any (first_of Width statements)
  net_spacing ← amount_of_any (first_of NetSpacing statements)
  table ← table_of_any (first_of Table statements)
  line_ends ← over with_line_end [] statements
  Some (record { area = area; width = width; net_spacing = net_spacing; table = table; line_ends = line_ends })

-- a cut layer
unfoldable pub cut_rules : List Words → Option RawLayerRulesModel
cut_rules statements = do
  net_spacing ← amount_of_any (first_of CutNetSpacing statements)
  Some (record no_rules { net_spacing = net_spacing })

-- the rules of a layer of this kind with these statements
abbrev pub rules_in : LayerKind → List Words → Option RawLayerRulesModel
rules_in (Routing direction width) statements = routing_rules statements
rules_in Cut statements = cut_rules statements
rules_in Other statements = Some no_rules
