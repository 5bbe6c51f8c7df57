-- A path that is followed item by item: what the definitions of paths state, one item at a time.
use Rattle.std.specs.Prelude.{ℕ, ℤ, Bool, if◌then◌else◌, List, [], ◌∷◌, ◌++◌, Option, None, Some, option_map}
use Rattle.leg_lex.specs.Words.{Words, ◌>>=◌}
use Rattle.leg_geom.specs.Plane.{PointModel}
use Rattle.leg_grammar.specs.declared.path_item.Item.{Item}
use Rattle.leg_grammar.specs.declared.path_item.Item.TheVariants.{ToPoint, ToVirtual, AtVia, AtArray, AtRect}
use Rattle.leg_grammar.specs.declared.via_array.ViaArray.{ViaArray}
use Rattle.leg_grammar.specs.declared.path_width.PathWidth.{PathWidth}
use Rattle.leg_design_records.specs.declared.records.Wire.{Wire}
use Rattle.leg_design_records.specs.declared.records.Wire.TheVariants.{ViaAt, Patch}
use Rattle.leg_grammar.specs.Def.NetScope.{NetScopeModel}
use Rattle.leg_grammar.specs.Def.Path.{next_spot, is_same_spot, extension_at, segment_to, across, wires_from}
use Rattle.leg_grammar.specs.Def.ViaArray.{array_vias}
use Rattle.leg_grammar.specs.Def.Wiring.{path_at}

-- where a path is after some of its items: its layer, its point with the extension there, and its wires so far
pub record PathState : Type 0 where
  pub layer : ℕ
  pub at : PointModel
  pub extension : Option ℤ
  pub wires : List Wire

-- these wires and the others
abbrev pub behind : List Wire → Option (List Wire) → Option (List Wire)
behind wires = option_map (λ others. wires ++ others)

-- all wires of the path, where these items follow
abbrev pub wires_with : NetScopeModel → PathWidth → PathState → List Item → Option (List Wire)
wires_with scope width walk items =
    behind walk.wires (wires_from scope width walk.layer walk.at walk.extension items)

-- after a step to a point with this extension
unfoldable pub walked_to : NetScopeModel → PathWidth → PointModel → Option ℤ → PathState → Option PathState
walked_to scope width to extension walk = do
  segment ← segment_to scope width walk.layer walk.at walk.extension to extension
  Some (record { layer = walk.layer; at = to; extension = extension; wires = walk.wires ++ segment ∷ [] })

-- after an array of a via
unfoldable pub walked_past_array : NetScopeModel → ℕ → ViaArray → PathState → Option PathState
walked_past_array scope via array walk = do
  other ← across scope via walk.layer
  wires ← behind walk.wires (array_vias via array walk.at)
  Some (record walk { layer = other; wires = wires })

-- after one more item, before these
unfoldable pub walked_past : NetScopeModel → PathWidth → Item → List Item → PathState → Option PathState
walked_past scope width (ToPoint x y given) later walk =
    if is_same_spot walk.at (next_spot walk.at x y) then Some walk
    else walked_to scope width (next_spot walk.at x y) (extension_at (next_spot walk.at x y) given later) walk
walked_past scope width (ToVirtual x y) later walk =
    Some (record walk { at = next_spot walk.at x y; extension = extension_at (next_spot walk.at x y) None later })
walked_past scope width (AtVia via) later walk = do
  other ← across scope via walk.layer
  Some (record walk { layer = other; wires = walk.wires ++ ViaAt via walk.at ∷ [] })
walked_past scope width (AtArray via array) later walk = walked_past_array scope via array walk
walked_past scope width (AtRect rect) later walk =
    Some (record walk { wires = walk.wires ++ Patch walk.layer walk.at rect ∷ [] })

-- these wires and those of a path
abbrev pub path_behind : NetScopeModel → Bool → List Wire → Words → Option (List Wire × Words)
path_behind scope special wires words = path_at scope special words >>= λ path. Some (wires ++ path.0, path.1)
