-- Nondefault rules of a DEF, which give the widths of the wires of nets under them (LEF/DEF 5.8, "Nondefault Rules"; that an entry
-- that cannot be read as a rule is read past, and that a rule's spacings and vias have no effect, are lefdef's own rules).
use Rattle.std.specs.Prelude.{ℕ, ℤ, pos, int_le, ◌==◌, if◌then◌else◌, List, [], ◌∷◌, ◌++◌, Option, None, Some, is_some, map, codes}
use Rattle.std.specs.List.{find, list_any}
use Rattle.leg_lex.specs.Words.{Words, ◌>>=◌, is_at, keyword_at, mark_at, name_at, whole_at, nothing_at}
use Rattle.leg_lex.specs.Until.{over}
use Rattle.leg_lex.specs.Statements.{statement_at, clauses_of}
use Rattle.leg_lex.specs.NameLookup.{place_of}
use Rattle.leg_lib_records.specs.declared.records.RuleWidth.{RuleWidth}
use Rattle.leg_lib_records.specs.Records.{LibraryModel, RuleModel}
use Rattle.leg_design_records.specs.Layers.{has_metal}
use Rattle.leg_grammar.specs.Def.Guard.{when, unless}
use Rattle.leg_grammar.specs.Def.Layers.{layer_named_at}
use Rattle.leg_grammar.specs.Def.Section.{section_at}

abbrev pub design_rule_names : List RuleModel → List (List ℕ)
design_rule_names rules = map (λ r. r.name) rules

-- the width that a rule gives wires on this layer, if it gives one
abbrev pub width_in : List RuleWidth → ℕ → Option ℤ
width_in widths layer = find (λ w. w.layer == layer) widths >>= λ w. Some w.width

-- LAYER name WIDTH width, a layer with metal of which no clause before gives a width; what comes behind is read past
unfoldable pub layer_width_at : LibraryModel → List RuleWidth → Words → Option (List RuleWidth)
layer_width_at library widths clause = do
  start ← keyword_at (codes "LAYER") clause
  layer ← layer_named_at library start.1
  metal ← when (has_metal library layer.0)
  new ← unless (list_any (λ w. w.layer == layer.0) widths)
  width ← keyword_at (codes "WIDTH") layer.1
  number ← whole_at width.1
  some ← when (int_le (pos 1) number.0)
  Some (widths ++ record { layer = layer.0; width = number.0 } ∷ [])

-- one more clause; others than LAYER are read past
unfoldable pub rule_clause : LibraryModel → List RuleWidth → Words → Option (List RuleWidth)
rule_clause library widths clause = if is_at (codes "LAYER") clause then layer_width_at library widths clause else Some widths

-- - NAME, a name that no rule before has (45 is the dash)
unfoldable pub rule_head : List RuleModel → Words → Option (List ℕ)
rule_head rules head = do
  dash ← mark_at 45 head
  name ← name_at dash.1
  new ← unless (is_some (place_of name.0 (design_rule_names rules)))
  end ← nothing_at name.1
  Some name.0

-- the head of an entry and its clauses, where these rules came before
unfoldable pub rule_in : LibraryModel → List RuleModel → List Words → Option RuleModel
rule_in library rules [] = None
rule_in library rules (head ∷ clauses) = do
  name ← rule_head rules head
  widths ← over (rule_clause library) [] clauses
  Some (record { name = name; widths = widths })

-- one more rule, if there is one
abbrev pub with_rule : List RuleModel → Option RuleModel → List RuleModel
with_rule rules None = rules
with_rule rules (Some rule) = rules ++ rule ∷ []

-- one more entry, which is a rule if it can be read as one
unfoldable pub rule_entry : LibraryModel → List RuleModel → Words → Option (List RuleModel × Words)
rule_entry library rules words = do
  statement ← statement_at words
  Some (with_rule rules (rule_in library rules (clauses_of statement.0)), statement.1)

-- NONDEFAULTRULES number ; entries END NONDEFAULTRULES
unfoldable pub rules_at : LibraryModel → Words → Option (List RuleModel × Words)
rules_at library words = section_at (codes "NONDEFAULTRULES") (rule_entry library) [] words

-- the rules of a section; one whose words are no such section has none
abbrev pub rules_of : Option (List RuleModel × Words) → List RuleModel
rules_of None = []
rules_of (Some section) = section.0
