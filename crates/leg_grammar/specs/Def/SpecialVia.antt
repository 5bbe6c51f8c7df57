-- Vias of SPECIALNETS that stand beside paths (LEF/DEF 5.8, "Special Wiring Statement").
use Rattle.std.specs.Prelude.{ℕ, Bool, not, List, [], ◌∷◌, ◌++◌, Option, Some, codes}
use Rattle.leg_lex.specs.Words.{Words, ◌>>=◌, is_at, keyword_at}
use Rattle.leg_lex.specs.Until.{until}
use Rattle.leg_design_records.specs.declared.records.Wire.{Wire}
use Rattle.leg_design_records.specs.declared.records.Wire.TheVariants.{ViaAt}
use Rattle.leg_grammar.specs.Def.Guard.{when}
use Rattle.leg_grammar.specs.Def.NetScope.{NetScopeModel, via_numbered}
use Rattle.leg_grammar.specs.Def.Placement.{spot_at}
use Rattle.leg_grammar.specs.Def.PathItem.{via_at}

-- the name of a good via, which denotes its number
unfoldable pub good_via_at : NetScopeModel → Words → Option (ℕ × Words)
good_via_at scope words = do
  number ← via_at scope words
  via ← via_numbered scope number.0
  good ← when via.good
  Some (number.0, number.1)

-- the via at one more point
unfoldable pub via_spot : ℕ → List Wire → Words → Option (List Wire × Words)
via_spot via wires words = do
  spot ← spot_at words
  Some (wires ++ ViaAt via spot.0 ∷ [], spot.1)

-- no further point comes next
abbrev pub at_no_spot : Words → Bool
at_no_spot words = not (is_at (codes "(") words)

-- VIA name and points, one at least
unfoldable pub special_vias_at : NetScopeModel → Words → Option (List Wire × Words)
special_vias_at scope clause = do
  start ← keyword_at (codes "VIA") clause
  via ← good_via_at scope start.1
  first ← via_spot via.0 [] via.1
  until at_no_spot (via_spot via.0) first.0 first.1
