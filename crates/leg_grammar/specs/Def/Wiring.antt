-- Paths and the clauses that contain them (LEF/DEF 5.8, "Regular Wiring Statement", "Special Wiring Statement"; what is left
-- out is lefdef's own rule).
use Rattle.std.specs.Prelude.{ℕ, ℤ, Bool, not, ◌&&◌, ◌||◌, if◌then◌else◌, List, [], ◌++◌, drop, Option, None, Some, codes}
use Rattle.leg_lex.specs.Words.{Words, ◌>>=◌, is_at, next_at, keyword_at, mark_at, name_at, word_at}
use Rattle.leg_lex.specs.Until.{until}
use Rattle.leg_lex.specs.NameLookup.{place_of}
use Rattle.leg_lib_records.specs.Records.{LibraryModel, layer_names}
use Rattle.leg_grammar.specs.declared.profile.Profile.{Profile}
use Rattle.leg_grammar.specs.declared.profile.Profile.TheVariants.{Narrow, Wide}
use Rattle.leg_grammar.specs.declared.path_width.PathWidth.{PathWidth}
use Rattle.leg_grammar.specs.declared.path_width.PathWidth.TheVariants.{OfLayers, OfRule, Written}
use Rattle.leg_design_records.specs.declared.records.Wire.{Wire}
use Rattle.leg_grammar.specs.Def.Guard.{when}
use Rattle.leg_design_records.specs.Layers.{is_routing}
use Rattle.leg_design_records.specs.Wires.{is_even}
use Rattle.leg_grammar.specs.Def.Count.{count_at}
use Rattle.leg_grammar.specs.Def.NetScope.{NetScopeModel, rule_named}
use Rattle.leg_grammar.specs.Def.Path.{path_wires}
use Rattle.leg_grammar.specs.Def.PathItem.{first_point_at, one_item, at_path_end}

-- a routing layer, by its number
unfoldable pub routing_at : LibraryModel → Words → Option (ℕ × Words)
routing_at library words = do
  name ← name_at words
  number ← place_of name.0 (layer_names library)
  routes ← when (is_routing library number)
  Some (number, name.1)

-- TAPER: the width of the layers
unfoldable pub past_taper : Words → Option (Unit {0} × Words)
past_taper words = if is_at (codes "TAPER") words then keyword_at (codes "TAPER") words else Some (tt, words)

-- the width of a special path: at least 0, and even
unfoldable pub written_width_at : Words → Option (ℤ × Words)
written_width_at words = do
  width ← count_at words
  even ← when (is_even width.0)
  Some (width.0, width.1)

abbrev pub at_no_shape : Words → Bool
at_no_shape words = not (is_at (codes "+") words && is_at (codes "SHAPE") (drop 1 words))

-- + SHAPE word has no effect (43 is the plus)
unfoldable pub past_shape : Unit {0} → Words → Option (Unit {0} × Words)
past_shape before words = do
  plus ← mark_at 43 words
  start ← keyword_at (codes "SHAPE") plus.1
  word ← word_at start.1
  Some (tt, word.1)

-- a nondefault rule, by its number
unfoldable pub rule_at : NetScopeModel → Words → Option (ℕ × Words)
rule_at scope words = do
  name ← name_at words
  rule ← rule_named scope name.0
  Some (rule, name.1)

-- the width of a path that names no other: that of the rule of its entry, if there is one
abbrev pub entry_width : Option ℕ → PathWidth
entry_width None = OfLayers
entry_width (Some rule) = OfRule rule

-- TAPER or TAPERRULE rule, if one is written; without them the rule of the entry. The narrow profile knows no rules.
unfoldable pub taper_at : Profile → NetScopeModel → Words → Option (PathWidth × Words)
taper_at Narrow scope words = past_taper words >>= λ taper. Some (OfLayers, taper.1)
taper_at (Wide masks soft) scope words =
    if is_at (codes "TAPERRULE") words then (do
      start ← keyword_at (codes "TAPERRULE") words
      rule ← rule_at scope start.1
      Some (OfRule rule.0, rule.1))
    else (if is_at (codes "TAPER") words then (keyword_at (codes "TAPER") words >>= λ taper. Some (OfLayers, taper.1))
    else Some (entry_width scope.rule, words))

-- what comes between a path's layer and its first point: in SPECIALNETS its width, and in NETS its rule
unfoldable pub path_width_at : NetScopeModel → Bool → Words → Option (PathWidth × Words)
path_width_at scope special words =
    if special then (do
      width ← written_width_at words
      shapes ← until at_no_shape past_shape tt width.1
      Some (Written width.0, shapes.1))
    else taper_at scope.profile scope words

-- a path, from its layer to its last item
unfoldable pub path_at : NetScopeModel → Bool → Words → Option (List Wire × Words)
path_at scope special words = do
  layer ← routing_at scope.library words
  width ← path_width_at scope special layer.1
  first ← first_point_at width.1
  items ← until at_path_end (one_item scope special) [] first.1
  wires ← path_wires scope width.0 layer.0 first.0.0 first.0.1 items.0
  Some (wires, items.1)

abbrev pub at_no_new : Words → Bool
at_no_new words = not (is_at (codes "NEW") words)

-- NEW and one more path
unfoldable pub new_path : NetScopeModel → Bool → List Wire → Words → Option (List Wire × Words)
new_path scope special wires words = do
  start ← keyword_at (codes "NEW") words
  path ← path_at scope special start.1
  Some (wires ++ path.0, path.1)

-- paths, joined by NEW
unfoldable pub paths_at : NetScopeModel → Bool → Words → Option (List Wire × Words)
paths_at scope special words = do
  first ← path_at scope special words
  until at_no_new (new_path scope special) first.0 first.1

-- whether a clause contains wiring: ROUTED, FIXED or COVER; NOSHIELD in NETS, and SHIELD in SPECIALNETS
abbrev pub is_wiring : Bool → Words → Bool
is_wiring special clause =
    is_at (codes "ROUTED") clause || is_at (codes "FIXED") clause || is_at (codes "COVER") clause
    || (is_at (codes "NOSHIELD") clause && not special) || (is_at (codes "SHIELD") clause && special)

-- the word of the clause; SHIELD names the net that it shields, which isn't looked up
unfoldable pub wiring_start : Words → Option (Unit {0} × Words)
wiring_start clause =
    if is_at (codes "SHIELD") clause then (do
      start ← keyword_at (codes "SHIELD") clause
      name ← name_at start.1
      Some (tt, name.1))
    else (next_at clause >>= λ start. Some (tt, start.1))

-- whether a clause comes next that gives a rectangle, a polygon or a via beside paths, or its shape or mask
abbrev pub is_shape_clause : Words → Bool
is_shape_clause clause =
    is_at (codes "RECT") clause || is_at (codes "POLYGON") clause || is_at (codes "VIA") clause || is_at (codes "SHAPE") clause
    || is_at (codes "MASK") clause

abbrev pub at_shape_clause : Words → Bool
at_shape_clause words = is_at (codes "+") words && is_shape_clause (drop 1 words)

-- paths; in SPECIALNETS of the wide profile the word of the clause may instead be that of such clauses behind it
unfoldable pub wires_at : Profile → NetScopeModel → Bool → Words → Option (List Wire × Words)
wires_at Narrow scope special words = paths_at scope special words
wires_at (Wide masks soft) scope special words =
    if special && at_shape_clause words then Some ([], words) else paths_at scope special words

-- ROUTED and the like, and paths
unfoldable pub wiring_at : NetScopeModel → Bool → Words → Option (List Wire × Words)
wiring_at scope special clause = do
  start ← wiring_start clause
  wires_at scope.profile scope special start.1
