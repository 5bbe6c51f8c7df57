-- Vias that words turn: each step takes a word, and a turned via has a new name.
use Rattle.std.proofs.Common.{◌≡◌, ◌<◌, List, length, None, Some, arith}
use Rattle.leg_lex.specs.Words.{Words}
use Rattle.leg_lex.proofs.Until.{Shortens, below_some, below_bind, below_ask}
use Rattle.leg_lex.proofs.Shorter.{next_below}
use Rattle.leg_lex.specs.NameLookup.{place_of}
use Rattle.leg_lib_records.specs.declared.records.Shape.{Shape}
use Rattle.leg_lib_records.specs.Records.{LibraryModel, ViaModel}
use Rattle.leg_design_records.specs.Records.{design_via_names}
use Rattle.leg_grammar.specs.Def.TurnedVia.{TurnedVias, TurnOfVia, turn_at, turned_via, with_turn_of, turn_of_word}
use Rattle.leg_design_floorplan.proofs.ReadTurnedVias.{turned_gives}

-- a turned via has a new name
pub name_is_new : (library : LibraryModel) (vias : List ViaModel) (turn : TurnOfVia) (shapes : List Shape) (via : ViaModel)
    → turned_via library vias turn shapes ≡ Some via → place_of via.name (design_via_names vias) ≡ None
name_is_new library vias turn shapes via is = ((turned_gives library vias turn shapes).given via is).1

pub word_shortens : (library : LibraryModel) → Shortens (turn_of_word library)
unfolding turn_of_word
word_shortens library made words =
    below_bind (omega arith) (next_below words) (λ word less.
    below_ask (with_turn_of library made (turn_at library made.vias words)) (λ next. below_some next word.1 less))

pub word_shorter : (library : LibraryModel) (made more : TurnedVias) (words rest : Words) → turn_of_word library made words ≡ Some (more, rest)
    → length rest < length words
word_shorter library made more words rest said = (word_shortens library made words).left more rest said
