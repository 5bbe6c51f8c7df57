-- Vias that are turned, in the wide profile: where words of NETS or SPECIALNETS name a via and an orientation behind it, the design gets a via with
-- the turned rectangles behind those of VIAS (LEF/DEF 5.8, "Regular Wiring Statement", "Special Wiring Statement"; the name of such a via, and that
-- the two words may stand anywhere in the section, are lefdef's own rules).
use Rattle.std.specs.Prelude.{ℕ, zero, suc, pos, ◌+◌, Bool, false, ◌&&◌, ◌==◌, if◌then◌else◌, List, [], ◌∷◌, ◌++◌, length, map, Option, None, Some, is_some, decimal}
use Rattle.std.specs.Ordering.{int_eq}
use Rattle.std.specs.List.{list_all}
use Rattle.leg_lex.specs.Words.{Words, ◌>>=◌, is_name, next_at, name_at}
use Rattle.leg_lex.specs.Until.{until, over}
use Rattle.leg_lex.specs.Statements.{at_end}
use Rattle.leg_geom.specs.Plane.{PointModel, RectModel}
use Rattle.leg_geom.specs.Orientation.{placed_rect}
use Rattle.leg_geom.specs.declared.orient.Orient.{Orient}
use Rattle.leg_lib_records.specs.declared.records.Shape.{Shape}
use Rattle.leg_lib_records.specs.Records.{LibraryModel, ViaModel}
use Rattle.leg_lib_records.specs.GoodVia.{is_good_via}
use Rattle.leg_grammar.specs.Def.Guard.{when}
use Rattle.leg_grammar.specs.Def.Placement.{orient_at}
use Rattle.leg_grammar.specs.declared.turned_via.TurnedVia.{TurnedVia}
use Rattle.leg_grammar.specs.Def.Turns.{orient_suffix, turn_number}
use Rattle.leg_grammar.specs.Def.NetScope.{via_of_number, number_of_via}
use Rattle.leg_grammar.specs.Def.CutArray.{is_room_for_shapes}
use Rattle.leg_grammar.specs.Def.PortVia.{via_shape}

-- the vias of a design, those of VIAS first, and which of them others are in an orientation, the last that was found first
pub record TurnedVias : Type 0 where
  pub vias : List ViaModel
  pub turned : List TurnedVia

-- the point 0 0
abbrev pub origin : PointModel
origin = record { x = pos 0; y = pos 0 }

-- a rectangle that is turned about it
abbrev pub turned_rect : Orient → RectModel → RectModel
turned_rect orient rect = placed_rect origin orient (pos 0) (pos 0) rect

abbrev pub turned_shape : Orient → Shape → Shape
turned_shape orient shape = record { layer = shape.layer; rect = turned_rect orient shape.rect }

abbrev pub is_same_rect : RectModel → RectModel → Bool
is_same_rect a b = int_eq a.x1 b.x1 && int_eq a.y1 b.y1 && int_eq a.x2 b.x2 && int_eq a.y2 b.y2

-- a shape that is the same when it is turned
abbrev pub stays : Orient → Shape → Bool
stays orient shape = is_same_rect (turned_rect orient shape.rect) shape.rect

-- a name, and with _1, _2 and so on behind it (95 is the underscore)
abbrev pub numbered_name : List ℕ → ℕ → List ℕ
numbered_name name number = if number == 0 then name else name ++ 95 ∷ decimal number

-- the first of these names, of so many from a number on, that no via has
unfoldable pub new_name_from : LibraryModel → List ViaModel → List ℕ → ℕ → ℕ → Option (List ℕ)
new_name_from library vias name zero number = None
new_name_from library vias name (suc more) number =
    if is_some (number_of_via library vias (numbered_name name number)) then new_name_from library vias name more (number + 1)
    else Some (numbered_name name number)

-- the first that no via has: of one name more than there are vias some is such a name
abbrev pub new_name : LibraryModel → List ViaModel → List ℕ → Option (List ℕ)
new_name library vias name = new_name_from library vias name (suc (length library.vias + length vias)) 0

-- a via that a word names, with an orientation behind it
pub record TurnOfVia : Type 0 where
  pub name : List ℕ
  pub via : ℕ
  pub orient : Orient

unfoldable pub turn_at : LibraryModel → List ViaModel → Words → Option TurnOfVia
turn_at library vias words = do
  first ← next_at words
  orient ← orient_at first.1
  name ← name_at words
  via ← number_of_via library vias name.0
  Some (record { name = name.0; via = via; orient = orient.0 })

-- the via is then that of this number
abbrev pub turned_as : TurnOfVia → ℕ → TurnedVia
turned_as turn number = record { via = turn.via; orient = turn.orient; number = number }

-- a via of these shapes, turned, with a word for a name that no via has, where there is room for its rectangles
unfoldable pub turned_via : LibraryModel → List ViaModel → TurnOfVia → List Shape → Option ViaModel
turned_via library vias turn shapes = do
  room ← when (is_room_for_shapes vias (length shapes))
  name ← new_name library vias (turn.name ++ orient_suffix turn.orient)
  word ← when (is_name name)
  turned ← over (via_shape library origin) [] (map (turned_shape turn.orient) shapes)
  Some (record { name = name; default_via = false; good = is_good_via library name turned; shapes = turned })

-- it comes behind the others
unfoldable pub with_turned_via : LibraryModel → TurnedVias → TurnOfVia → List Shape → Option TurnedVias
with_turned_via library made turn shapes = do
  via ← turned_via library made.vias turn shapes
  Some (record {
    vias = made.vias ++ via ∷ [];
    turned = turned_as turn (length library.vias + length made.vias) ∷ made.turned;
  })

-- a via of these shapes that was not turned so before; where each stays the same, it is itself the turned via
unfoldable pub with_new_turn : LibraryModel → TurnedVias → TurnOfVia → List Shape → Option TurnedVias
with_new_turn library made turn shapes =
    if list_all (stays turn.orient) shapes then Some (record made { turned = turned_as turn turn.via ∷ made.turned })
    else with_turned_via library made turn shapes

-- what is turned so before stays
unfoldable pub with_turn_of : LibraryModel → TurnedVias → Option TurnOfVia → Option TurnedVias
with_turn_of library made None = Some made
with_turn_of library made (Some turn) =
    if is_some (turn_number made.turned turn.via turn.orient) then Some made
    else (via_of_number library made.vias turn.via >>= λ via. with_new_turn library made turn via.shapes)

-- one more word, with the orientation behind it if it names a via
unfoldable pub turn_of_word : LibraryModel → TurnedVias → Words → Option (TurnedVias × Words)
turn_of_word library made words = do
  word ← next_at words
  next ← with_turn_of library made (turn_at library made.vias words)
  Some (next, word.1)

-- all vias that words turn, up to END
unfoldable pub turned_vias_at : LibraryModel → TurnedVias → Words → Option (TurnedVias × Words)
turned_vias_at library made words = until at_end (turn_of_word library) made words
