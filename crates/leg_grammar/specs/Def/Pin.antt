-- Pins of the design (LEF/DEF 5.8, "Pins"; how many there may be is lefdef's own rule).
use Rattle.std.specs.Prelude.{ℕ, nat_le, List, [], ◌∷◌, ◌++◌, length, Option, None, Some, is_some, codes}
use Rattle.leg_lex.specs.Words.{Words, ◌>>=◌, mark_at, name_at, nothing_at}
use Rattle.leg_lex.specs.Until.{over}
use Rattle.leg_lex.specs.Statements.{statement_at, clauses_of}
use Rattle.leg_lex.specs.NameLookup.{place_of}
use Rattle.leg_design_records.specs.declared.limits.TheConstants.{ENTRY_LIMIT}
use Rattle.leg_grammar.specs.Def.Guard.{unless}
use Rattle.leg_grammar.specs.Def.NetScope.{NetScopeModel}
use Rattle.leg_grammar.specs.Def.Section.{section_at}
use Rattle.leg_design_records.specs.Records.{PinModel, pin_names}
use Rattle.leg_grammar.specs.Def.PinClauses.{no_pin_clauses, all_ports, pin_clause}

-- - NAME, a new one (45 is the dash)
unfoldable pub pin_head : List (List ℕ) → Words → Option (List ℕ)
pin_head names head = do
  dash ← mark_at 45 head
  name ← name_at dash.1
  new ← unless (is_some (place_of name.0 names))
  end ← nothing_at name.1
  Some name.0

-- the entry's head and its clauses, where these names came before
unfoldable pub pin_in : NetScopeModel → List (List ℕ) → List Words → Option PinModel
pin_in scope names [] = None
pin_in scope names (head ∷ clauses) = do
  name ← pin_head names head
  parts ← over (pin_clause scope) no_pin_clauses clauses
  Some (record { name = name; net_name = parts.net_name; direction = parts.direction; usage = parts.usage; ports = all_ports parts })

-- one more entry
unfoldable pub pin_entry : NetScopeModel → List PinModel → Words → Option (List PinModel × Words)
pin_entry scope pins words = do
  room ← unless (nat_le ENTRY_LIMIT (length pins))
  statement ← statement_at words
  pin ← pin_in scope (pin_names pins) (clauses_of statement.0)
  Some (pins ++ pin ∷ [], statement.1)

-- PINS number ; entries END PINS
unfoldable pub pins_at : NetScopeModel → Words → Option (List PinModel × Words)
pins_at scope words = section_at (codes "PINS") (pin_entry scope) [] words
