-- Pins of a macro (LEF/DEF 5.8, "Macro Pin Statement").
use Rattle.std.specs.Prelude.{ℕ, if◌then◌else◌, List, [], ◌∷◌, ◌++◌, Option, None, Some, codes}
use Rattle.leg_lex.specs.Words.{Words, ◌>>=◌, is_keyword, is_at, keyword_at, name_at, word_at, end_of, nothing_at}
use Rattle.leg_lex.specs.Until.{until}
use Rattle.leg_lex.specs.Statements.{statement_at, only, at_end}
use Rattle.leg_lib_records.specs.declared.records.Supply.{Supply}
use Rattle.leg_lib_records.specs.declared.records.Supply.TheVariants.{NoSupply, Power, Ground}
use Rattle.leg_lib_records.specs.declared.raw.RawShape.{RawShape}
use Rattle.leg_lib_records.specs.Records.{RawLibraryModel, RawPinModel}
use Rattle.leg_grammar.specs.declared.profile.Profile.{Profile}
use Rattle.leg_grammar.specs.Lef.Geometry.{geometry_at}

-- what came before in a pin: the shapes of its ports, and its statements
pub record PinParts : Type 0 where
  pub shapes : List RawShape
  pub statements : List Words

abbrev pub no_pin_parts : PinParts
no_pin_parts = record { shapes = []; statements = [] }

-- PORT shapes END
unfoldable pub port_at : Profile → RawLibraryModel → Words → Option (List RawShape × Words)
port_at profile library words = do
  start ← keyword_at (codes "PORT") words
  shapes ← geometry_at profile library start.1
  end ← keyword_at (codes "END") shapes.1
  Some (shapes.0, end.1)

-- one more port, or one more statement
unfoldable pub pin_part : Profile → RawLibraryModel → PinParts → Words → Option (PinParts × Words)
pin_part profile library parts words =
    if is_at (codes "PORT") words then (do
      port ← port_at profile library words
      Some (record parts { shapes = parts.shapes ++ port.0 }, port.1))
    else (do
      statement ← statement_at words
      Some (record parts { statements = parts.statements ++ statement.0 ∷ [] }, statement.1))

-- USE word
unfoldable pub use_in : Words → Option (List ℕ)
use_in statement = do
  start ← keyword_at (codes "USE") statement
  word ← word_at start.1
  end ← nothing_at word.1
  Some word.0

abbrev pub supply_of : List ℕ → Supply
supply_of word =
    if is_keyword (codes "POWER") word then Power else (if is_keyword (codes "GROUND") word then Ground else NoSupply)

abbrev pub supply_of_any : Option Words → Option Supply
supply_of_any None = Some NoSupply
supply_of_any (Some statement) = use_in statement >>= λ word. Some (supply_of word)

-- PIN NAME ports and statements END NAME: at most one USE, and the rest is read past
unfoldable pub pin_at : Profile → RawLibraryModel → Words → Option (RawPinModel × Words)
pin_at profile library words = do
  start ← keyword_at (codes "PIN") words
  name ← name_at start.1
  parts ← until at_end (pin_part profile library) no_pin_parts name.1
  found ← only (codes "USE") parts.0.statements
  supply ← supply_of_any found
  end ← end_of name.0 parts.1
  Some (record { name = name.0; supply = supply; shapes = parts.0.shapes }, end.1)
