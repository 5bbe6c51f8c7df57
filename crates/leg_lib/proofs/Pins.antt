-- Each port and each statement of a pin takes a word, and so does a pin.
use Rattle.std.proofs.Common.{◌≡◌, ◌<◌, [], ◌∷◌, ◌++◌, length, Some, codes, arith}
use Rattle.leg_lex.specs.Words.{Words, is_at}
use Rattle.leg_lex.specs.Statements.{only, at_end}
use Rattle.leg_lex.proofs.Shorter.{keyword_below, name_below, end_of_below}
use Rattle.leg_lex.proofs.Statements.{statement_below}
use Rattle.leg_lex.proofs.Until.{Below, Shortens, below_some, below_bind, below_ask, below_if, until_below}
use Rattle.leg_lib_records.specs.Records.{RawLibraryModel}
use Rattle.leg_grammar.specs.declared.profile.Profile.{Profile}
use Rattle.leg_grammar.specs.Lef.Pin.{PinParts, no_pin_parts, port_at, pin_part, supply_of_any, pin_at}
use Rattle.leg_lib.proofs.DrawnShapes.{geometry_below}

port_below : (profile : Profile) (library : RawLibraryModel) (words : Words) → Below (length words) (port_at profile library words)
unfolding port_at
port_below profile library words =
    below_bind (omega arith) (keyword_below (codes "PORT") words) (λ start less.
    below_bind (omega arith) (geometry_below profile library start.1) (λ shapes no_more.
    below_bind (omega arith) (keyword_below (codes "END") shapes.1) (λ end last.
    below_some shapes.0 end.1 last)))

pub pin_part_shortens : (profile : Profile) (library : RawLibraryModel) → Shortens (pin_part profile library)
unfolding pin_part
pin_part_shortens profile library parts words =
    below_if (is_at (codes "PORT") words)
    (below_bind (omega arith) (port_below profile library words) (λ port less.
    below_some (record parts { shapes = parts.shapes ++ port.0 }) port.1 less))
    (below_bind (omega arith) (statement_below words) (λ statement less.
    below_some (record parts { statements = parts.statements ++ statement.0 ∷ [] }) statement.1 less))

pub pin_part_shorter : (profile : Profile) (library : RawLibraryModel) (parts more : PinParts) (words rest : Words)
    → pin_part profile library parts words ≡ Some (more, rest)
    → length rest < length words
pin_part_shorter profile library parts more words rest said = (pin_part_shortens profile library parts words).left more rest said

pub pin_below : (profile : Profile) (library : RawLibraryModel) (words : Words) → Below (length words) (pin_at profile library words)
unfolding pin_at
pin_below profile library words =
    below_bind (omega arith) (keyword_below (codes "PIN") words) (λ start less.
    below_bind (omega arith) (name_below start.1) (λ name fewer.
    below_bind (omega arith) (until_below at_end (pin_part profile library) (pin_part_shortens profile library) no_pin_parts name.1) (λ parts no_more.
    below_ask (only (codes "USE") parts.0.statements) (λ found.
    below_ask (supply_of_any found) (λ supply.
    below_bind (omega arith) (end_of_below name.0 parts.1) (λ end last.
    below_some (record { name = name.0; supply = supply; shapes = parts.0.shapes }) end.1 last))))))
