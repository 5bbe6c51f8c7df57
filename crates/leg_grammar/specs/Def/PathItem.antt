-- The words of a path's items (LEF/DEF 5.8, "Regular Wiring Statement", "Special Wiring Statement").
use Rattle.std.specs.Prelude.{ℕ, ℤ, Bool, true, not, ◌&&◌, ◌||◌, if◌then◌else◌, List, [], ◌∷◌, ◌++◌, Option, None, Some, codes}
use Rattle.std.specs.Option.{option_or}
use Rattle.std.specs.Str.{bytes_eq}
use Rattle.leg_lex.specs.Words.{Words, ◌>>=◌, is_keyword, is_at, keyword_at, mark_at, name_at, whole_at}
use Rattle.leg_geom.specs.Plane.{PointModel}
use Rattle.leg_lib_records.specs.Joins.{is_wiring_word}
use Rattle.leg_lib_records.specs.Measure.{rect_between}
use Rattle.leg_grammar.specs.declared.path_item.Item.{Item}
use Rattle.leg_grammar.specs.declared.path_item.Item.TheVariants.{ToPoint, ToVirtual, AtVia, AtArray, AtRect}
use Rattle.leg_grammar.specs.declared.profile.Profile.{Profile}
use Rattle.leg_grammar.specs.declared.profile.Profile.TheVariants.{Narrow, Wide}
use Rattle.leg_grammar.specs.Def.Guard.{unless}
use Rattle.leg_grammar.specs.Def.Count.{count_at}
use Rattle.leg_grammar.specs.Def.Placement.{orient_at}
use Rattle.leg_grammar.specs.Def.ViaArray.{array_at}
use Rattle.leg_grammar.specs.Mask.{past_mask}
use Rattle.leg_grammar.specs.Def.Turns.{turn_number}
use Rattle.leg_grammar.specs.Def.NetScope.{NetScopeModel, via_named}

-- a number, or `*` (42) for the coordinate of the point before
unfoldable pub coordinate_at : Words → Option (Option ℤ × Words)
coordinate_at words =
    if is_at (codes "*") words then (mark_at 42 words >>= λ star. Some (None, star.1))
    else (whole_at words >>= λ z. Some (Some z.0, z.1))

-- an extension, where the parenthesis (41) doesn't close before
unfoldable pub extension_in_point : Words → Option (Option ℤ × Words)
extension_in_point words =
    if is_at (codes ")") words then Some (None, words)
    else (count_at words >>= λ z. Some (Some z.0, z.1))

-- ( x y ) or ( x y extension )
unfoldable pub point_item : Words → Option (Item × Words)
point_item words = do
  open_ ← mark_at 40 words
  x ← coordinate_at open_.1
  y ← coordinate_at x.1
  extension ← extension_in_point y.1
  close ← mark_at 41 extension.1
  Some (ToPoint x.0 y.0 extension.0, close.1)

-- ( x y ) or ( x y extension ), both coordinates as numbers
unfoldable pub first_point_at : Words → Option ((PointModel × Option ℤ) × Words)
first_point_at words = do
  open_ ← mark_at 40 words
  x ← whole_at open_.1
  y ← whole_at x.1
  extension ← extension_in_point y.1
  close ← mark_at 41 extension.1
  Some ((record { x = x.0; y = y.0 }, extension.0), close.1)

-- RECT ( a b c d ): the rectangle between two corners about the point
unfoldable pub rect_item : Words → Option (Item × Words)
rect_item words = do
  start ← keyword_at (codes "RECT") words
  open_ ← mark_at 40 start.1
  a ← whole_at open_.1
  b ← whole_at a.1
  c ← whole_at b.1
  d ← whole_at c.1
  close ← mark_at 41 d.1
  rect ← rect_between (record { x = a.0; y = b.0 }) (record { x = c.0; y = d.0 })
  Some (AtRect rect, close.1)

-- N directly after a via is read past
unfoldable pub past_north : Words → Option (Unit {0} × Words)
past_north words = if is_at (codes "N") words then keyword_at (codes "N") words else Some (tt, words)

-- an orientation directly after a via in which it is turned: the number of the turned via
unfoldable pub turn_of_via_at : NetScopeModel → ℕ → Words → Option (ℕ × Words)
turn_of_via_at scope via words = do
  orient ← orient_at words
  number ← turn_number scope.turned via orient.0
  Some (number, orient.1)

-- a via that is not turned, also with N directly after it
unfoldable pub upright_via_at : ℕ → Words → Option (ℕ × Words)
upright_via_at via words = past_north words >>= λ north. Some (via, north.1)

-- the name of a via, which denotes its number, or with an orientation the number of a turned via
unfoldable pub via_at : NetScopeModel → Words → Option (ℕ × Words)
via_at scope words = do
  name ← name_at words
  other ← unless (is_wiring_word name.0)
  via ← via_named scope name.0
  option_or (turn_of_via_at scope via name.1) (upright_via_at via name.1)

-- a via
unfoldable pub via_item : NetScopeModel → Words → Option (Item × Words)
via_item scope words = do
  via ← via_at scope words
  Some (AtVia via.0, via.1)

-- behind a via: DO and the like, for an array of it
unfoldable pub array_of_via : ℕ → Words → Option (Item × Words)
array_of_via via words =
    if is_at (codes "DO") words then (array_at words >>= λ array. Some (AtArray via array.0, array.1))
    else Some (AtVia via, words)

-- a via, or an array of one
unfoldable pub via_or_array_item : NetScopeModel → Words → Option (Item × Words)
via_or_array_item scope words = do
  via ← via_at scope words
  array_of_via via.0 via.1

-- VIRTUAL ( x y )
unfoldable pub virtual_item : Words → Option (Item × Words)
virtual_item words = do
  start ← keyword_at (codes "VIRTUAL") words
  open_ ← mark_at 40 start.1
  x ← coordinate_at open_.1
  y ← coordinate_at x.1
  close ← mark_at 41 y.1
  Some (ToVirtual x.0 y.0, close.1)

-- an item that is no point and no rectangle: a via, and in the wide profile also an array of one in SPECIALNETS, and a
-- virtual point in NETS
unfoldable pub other_item : Profile → NetScopeModel → Bool → Words → Option (Item × Words)
other_item Narrow scope special words = via_item scope words
other_item (Wide masks soft) scope special words =
    if special then via_or_array_item scope words
    else (if is_at (codes "VIRTUAL") words then virtual_item words else via_item scope words)

-- an item of a path without its mask; rectangles are in NETS only
unfoldable pub item_without_mask : NetScopeModel → Bool → Words → Option (Item × Words)
item_without_mask scope special words =
    if is_at (codes "(") words then point_item words
    else (if is_at (codes "RECT") words && not special then rect_item words else other_item scope.profile scope special words)

-- an item of a path, behind its mask
unfoldable pub item_at : NetScopeModel → Bool → Words → Option (Item × Words)
item_at scope special words = do
  mask ← past_mask scope.profile words
  item_without_mask scope special mask.1

-- one more item
unfoldable pub one_item : NetScopeModel → Bool → List Item → Words → Option (List Item × Words)
one_item scope special items words = do
  item ← item_at scope special words
  Some (items ++ item.0 ∷ [], item.1)

-- where the items of a path end: at NEW, at the `+` of another clause, or with the entry
abbrev pub at_path_end : Words → Bool
at_path_end [] = true
at_path_end (word ∷ words) = is_keyword (codes "NEW") word || bytes_eq word (codes "+")
