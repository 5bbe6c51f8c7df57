-- Pins of a design: each entry takes a word, and its name is new.
use Rattle.std.proofs.Common.{◌≡◌, ℕ, ◌<◌, nat_le, List, [], ◌∷◌, ◌++◌, length, None, Some, codes, arith}
use Rattle.leg_lex.specs.Words.{Words}
use Rattle.leg_lex.specs.Statements.{clauses_of}
use Rattle.leg_lex.specs.NameLookup.{place_of}
use Rattle.leg_lex.proofs.Until.{Below, Shortens, below_some, below_bind, below_ask}
use Rattle.leg_lex.proofs.Statements.{statement_below}
use Rattle.leg_grammar.specs.Def.NetScope.{NetScopeModel}
use Rattle.leg_design_records.specs.declared.limits.TheConstants.{ENTRY_LIMIT}
use Rattle.leg_grammar.specs.Def.Guard.{unless}
use Rattle.leg_design_records.specs.Records.{PinModel, pin_names}
use Rattle.leg_grammar.specs.Def.Pin.{pin_in, pin_entry, pins_at}
use Rattle.leg_design_floorplan.proofs.ReadPins.{pin_in_gives}
use Rattle.leg_design_common.proofs.Sections.{section_below}

-- a pin that is read has a new name
pub name_is_fresh : (scope : NetScopeModel) (names : List (List ℕ)) (parts : List Words) (pin : PinModel) → pin_in scope names parts ≡ Some pin
    → place_of pin.name names ≡ None
name_is_fresh scope names parts pin is = ((pin_in_gives scope names parts).given pin is).1

pub entry_shortens : (scope : NetScopeModel) → Shortens (pin_entry scope)
unfolding pin_entry
entry_shortens scope pins words =
    below_ask (unless (nat_le ENTRY_LIMIT (length pins))) (λ room.
    below_bind (omega arith) (statement_below words) (λ statement less.
    below_ask (pin_in scope (pin_names pins) (clauses_of statement.0)) (λ pin. below_some (pins ++ pin ∷ []) statement.1 less)))

pub entry_shorter : (scope : NetScopeModel) (pins more : List PinModel) (words rest : Words) → pin_entry scope pins words ≡ Some (more, rest)
    → length rest < length words
entry_shorter scope pins more words rest said = (entry_shortens scope pins words).left more rest said

pub pins_below : (scope : NetScopeModel) (words : Words) → Below (length words) (pins_at scope words)
unfolding pins_at
pins_below scope words = section_below (codes "PINS") (pin_entry scope) (entry_shortens scope) [] words
