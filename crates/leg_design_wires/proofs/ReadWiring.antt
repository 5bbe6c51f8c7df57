-- The wires that wiring says are such as a DEF can spell.
use Rattle.std.proofs.Common.{◌≡◌, ℕ, ℤ, pos, ◌≤ℤ◌, Bool, true, false, not, ◌&&◌, int_lt, List, [], All, Option, None, Some, codes, refl, sym}
use Rattle.std.proofs.lemmas.List.Elements.{All-nil, All-push, All-append}
use Rattle.leg_lemmas.proofs.Integers.{least_from_test}
use Rattle.leg_lex.specs.Words.{Words, is_at, keyword_at, mark_at, name_at}
use Rattle.leg_lex.specs.Until.{until}
use Rattle.leg_lex.specs.Number.{IsNumber}
use Rattle.leg_lex.specs.NameLookup.{place_of}
use Rattle.leg_lex.proofs.GivesAll.{until_gives}
use Rattle.leg_geom.specs.Plane.{PointModel}
use Rattle.leg_lib_records.specs.Records.{layer_names}
use Rattle.leg_design_records.specs.declared.records.Wire.{Wire}
use Rattle.leg_design_records.specs.Layers.{is_routing}
use Rattle.leg_grammar.specs.Def.NetScope.{NetScopeModel}
use Rattle.leg_grammar.specs.declared.path_item.Item.{Item}
use Rattle.leg_grammar.specs.declared.profile.Profile.{Profile}
use Rattle.leg_grammar.specs.declared.profile.Profile.TheVariants.{Narrow, Wide}
use Rattle.leg_grammar.specs.declared.path_width.PathWidth.{PathWidth}
use Rattle.leg_grammar.specs.Def.Count.{count_at}
use Rattle.leg_grammar.specs.Def.ViaArray.{array_at}
use Rattle.leg_grammar.specs.Mask.{past_mask}
use Rattle.leg_grammar.specs.Def.PathItem.{coordinate_at, extension_in_point, point_item, first_point_at, rect_item, via_at, via_item, array_of_via, via_or_array_item, virtual_item, other_item, item_without_mask, item_at, one_item, at_path_end}
use Rattle.leg_grammar.specs.Def.Wiring.{routing_at, past_taper, written_width_at, at_no_shape, past_shape, rule_at, entry_width, taper_at, path_width_at, path_at, at_no_new, new_path, paths_at, wiring_start, at_shape_clause, wires_at, wiring_at}
use Rattle.leg_design_records.specs.Wires.{is_even}
use Rattle.leg_design_records.specs.WellFormedParts.{IsPosition}
use Rattle.leg_design_records.specs.WellFormedNets.{IsWire}
use Rattle.leg_design_common.proofs.Gives.{Gives, gives_some, gives_bind, gives_skip, gives_choice, gives_if, when_gives, unless_gives}
use Rattle.leg_design_common.proofs.ReadPlacement.{whole_gives, between_gives}
use Rattle.leg_design_wires.proofs.ReadPaths.{IsGiven, IsNumberIfAny, IsItem, IsWidth, AreWires, path_gives}

count_gives : (words : Words) → Gives (λ said. IsNumber said.0 × (pos 0 ≤ℤ said.0)) (count_at words)
unfolding count_at
count_gives words =
    gives_bind (whole_gives words) (λ z number.
    gives_bind (unless_gives (int_lt z.0 (pos 0))) (λ some least.
    gives_some _ (number, least_from_test z.0 (pos 0) least)))

coordinate_gives : (words : Words) → Gives (λ said. IsNumberIfAny said.0) (coordinate_at words)
unfolding coordinate_at
coordinate_gives words =
    gives_if (is_at (codes "*") words)
    (gives_skip (mark_at 42 words) (λ star. gives_some _ tt))
    (gives_bind (whole_gives words) (λ z number. gives_some _ number))

extension_gives : (words : Words) → Gives (λ said. IsGiven said.0) (extension_in_point words)
unfolding extension_in_point
extension_gives words =
    gives_if (is_at (codes ")") words) (gives_some _ tt) (gives_bind (count_gives words) (λ z count. gives_some _ count))

-- a point with its extension
abbrev IsStart : PointModel × Option ℤ → Type 0
IsStart point = IsPosition point.0 × IsGiven point.1

first_point_gives : (words : Words) → Gives (λ said. IsStart said.0) (first_point_at words)
unfolding first_point_at
first_point_gives words =
    gives_skip (mark_at 40 words) (λ open_.
    gives_bind (whole_gives open_.1) (λ x wide.
    gives_bind (whole_gives x.1) (λ y high.
    gives_bind (extension_gives y.1) (λ extension given.
    gives_skip (mark_at 41 extension.1) (λ close.
    gives_some _ (record { x = wide; y = high }, given))))))

module _ (scope : NetScopeModel) (special : Bool) where
  point_item_gives : (words : Words) → Gives (λ said. IsItem special said.0) (point_item words)
  unfolding point_item
  point_item_gives words =
      gives_skip (mark_at 40 words) (λ open_.
      gives_bind (coordinate_gives open_.1) (λ x wide.
      gives_bind (coordinate_gives x.1) (λ y high.
      gives_bind (extension_gives y.1) (λ extension given.
      gives_skip (mark_at 41 extension.1) (λ close.
      gives_some _ (wide, high, given))))))

  rect_item_gives : special ≡ false → (words : Words) → Gives (λ said. IsItem special said.0) (rect_item words)
  unfolding rect_item
  rect_item_gives in_nets words =
      gives_skip (keyword_at (codes "RECT") words) (λ start.
      gives_skip (mark_at 40 start.1) (λ open_.
      gives_bind (whole_gives open_.1) (λ a a_is.
      gives_bind (whole_gives a.1) (λ b b_is.
      gives_bind (whole_gives b.1) (λ c c_is.
      gives_bind (whole_gives c.1) (λ d d_is.
      gives_skip (mark_at 41 d.1) (λ close.
      gives_bind (between_gives (record { x = a.0; y = b.0 }) (record { x = c.0; y = d.0 }) (record { x = a_is; y = b_is }) (record { x = c_is; y = d_is }))
      (λ rect area.
      gives_some _ (in_nets, area)))))))))

  via_item_gives : (words : Words) → Gives (λ said. IsItem special said.0) (via_item scope words)
  unfolding via_item
  via_item_gives words = gives_skip (via_at scope words) (λ via. gives_some _ tt)

  array_of_via_gives : (via : ℕ) (words : Words) → Gives (λ said. IsItem special said.0) (array_of_via via words)
  unfolding array_of_via
  array_of_via_gives via words =
      gives_if (is_at (codes "DO") words) (gives_skip (array_at words) (λ array. gives_some _ tt)) (gives_some _ tt)

  via_or_array_gives : (words : Words) → Gives (λ said. IsItem special said.0) (via_or_array_item scope words)
  unfolding via_or_array_item
  via_or_array_gives words = gives_skip (via_at scope words) (λ via. array_of_via_gives via.0 via.1)

  virtual_item_gives : (words : Words) → Gives (λ said. IsItem special said.0) (virtual_item words)
  unfolding virtual_item
  virtual_item_gives words =
      gives_skip (keyword_at (codes "VIRTUAL") words) (λ start.
      gives_skip (mark_at 40 start.1) (λ open_.
      gives_bind (coordinate_gives open_.1) (λ x wide.
      gives_bind (coordinate_gives x.1) (λ y high.
      gives_skip (mark_at 41 y.1) (λ close.
      gives_some _ (wide, high))))))

  other_item_gives : (profile : Profile) (words : Words) → Gives (λ said. IsItem special said.0) (other_item profile scope special words)
  unfolding other_item
  other_item_gives Narrow words = via_item_gives words
  other_item_gives (Wide masks soft) words =
      gives_if special (via_or_array_gives words)
      (gives_if (is_at (codes "VIRTUAL") words) (virtual_item_gives words) (via_item_gives words))

  not_special : (test special : Bool) → (test && not special) ≡ true → special ≡ false
  not_special true false is = refl
  not_special true true is = sym is
  not_special false special is = absurd (let e : ⊥ = cc in e)

  without_mask_gives : (words : Words) → Gives (λ said. IsItem special said.0) (item_without_mask scope special words)
  unfolding item_without_mask
  without_mask_gives words =
      gives_if (is_at (codes "(") words) (point_item_gives words)
      (gives_choice (is_at (codes "RECT") words && not special)
      (λ rect. rect_item_gives (not_special (is_at (codes "RECT") words) special rect) words)
      (λ other. other_item_gives scope.profile words))

  item_gives : (words : Words) → Gives (λ said. IsItem special said.0) (item_at scope special words)
  unfolding item_at
  item_gives words = gives_skip (past_mask scope.profile words) (λ mask. without_mask_gives mask.1)

  abbrev AreItems : List Item → Type 0
  AreItems items = All (IsItem special) items

  one_item_gives : (items : List Item) (words : Words) → AreItems items → Gives (λ said. AreItems said.0) (one_item scope special items words)
  unfolding one_item
  one_item_gives items words each =
      gives_bind (item_gives words) (λ item is.
      gives_some _ (All-push (IsItem special) items item.0 each is))

  pub routing_gives : (words : Words) → Gives (λ said. is_routing scope.library said.0 ≡ true) (routing_at scope.library words)
  unfolding routing_at
  routing_gives words =
      gives_skip (name_at words) (λ name.
      gives_skip (place_of name.0 (layer_names scope.library)) (λ number.
      gives_bind (when_gives (is_routing scope.library number)) (λ routes is.
      gives_some _ is)))

  taper_gives : special ≡ false → (profile : Profile) (words : Words) → Gives (λ said. IsWidth special said.0) (taper_at profile scope words)
  unfolding taper_at
  taper_gives in_nets Narrow words = gives_skip (past_taper words) (λ taper. gives_some _ in_nets)
  taper_gives in_nets (Wide masks soft) words =
      gives_if (is_at (codes "TAPERRULE") words)
      (gives_skip (keyword_at (codes "TAPERRULE") words) (λ start. gives_skip (rule_at scope start.1) (λ rule. gives_some _ in_nets)))
      (gives_if (is_at (codes "TAPER") words) (gives_skip (keyword_at (codes "TAPER") words) (λ taper. gives_some _ in_nets))
      (of_entry scope.rule)) where
        of_entry : (rule : Option ℕ) → Gives (λ (said : PathWidth × Words). IsWidth special said.0) (Some (entry_width rule, words))
        of_entry None = gives_some _ in_nets
        of_entry (Some rule) = gives_some _ in_nets

  -- the width of a special path is even, and a number of at least 0
  written_gives : (words : Words) → Gives (λ (said : ℤ × Words). IsNumber said.0 × (pos 0 ≤ℤ said.0) × (is_even said.0 ≡ true)) (written_width_at words)
  unfolding written_width_at
  written_gives words =
      gives_bind (count_gives words) (λ width count.
      gives_bind (when_gives (is_even width.0)) (λ even is.
      gives_some _ (count.0, count.1, is)))

  path_width_gives : (words : Words) → Gives (λ said. IsWidth special said.0) (path_width_at scope special words)
  unfolding path_width_at
  path_width_gives words =
      gives_choice special
      (λ is_special.
      gives_bind (written_gives words) (λ width is.
      gives_skip (until at_no_shape past_shape tt width.1) (λ shapes.
      gives_some _ (is_special, is.0, is.1, is.2))))
      (λ in_nets. taper_gives in_nets scope.profile words)

  path_at_gives : (words : Words) → Gives (λ said. AreWires scope special said.0) (path_at scope special words)
  unfolding path_at
  path_at_gives words =
      gives_bind (routing_gives words) (λ layer routes.
      gives_bind (path_width_gives layer.1) (λ width is_width.
      gives_bind (first_point_gives width.1) (λ first starts.
      gives_bind (until_gives AreItems at_path_end (one_item scope special) one_item_gives [] first.1 (All-nil (IsItem special))) (λ items each.
      gives_bind (path_gives scope special width.0 layer.0 first.0.0 first.0.1 items.0 is_width routes starts.0 starts.1 each) (λ wires are.
      gives_some _ are)))))

  new_path_gives : (wires : List Wire) (words : Words) → AreWires scope special wires
      → Gives (λ said. AreWires scope special said.0) (new_path scope special wires words)
  unfolding new_path
  new_path_gives wires words are =
      gives_skip (keyword_at (codes "NEW") words) (λ start.
      gives_bind (path_at_gives start.1) (λ path more.
      gives_some _ (All-append (IsWire scope.library scope.vias special) wires path.0 are more)))

  paths_give : (words : Words) → Gives (λ said. AreWires scope special said.0) (paths_at scope special words)
  unfolding paths_at
  paths_give words =
      gives_bind (path_at_gives words) (λ first are.
      until_gives (AreWires scope special) at_no_new (new_path scope special) new_path_gives first.0 first.1 are)

  wires_at_gives : (profile : Profile) (words : Words) → Gives (λ said. AreWires scope special said.0) (wires_at profile scope special words)
  unfolding wires_at
  wires_at_gives Narrow words = paths_give words
  wires_at_gives (Wide masks soft) words =
      gives_if (special && at_shape_clause words) (gives_some _ (All-nil (IsWire scope.library scope.vias special))) (paths_give words)

  pub wiring_gives : (clause : Words) → Gives (λ said. AreWires scope special said.0) (wiring_at scope special clause)
  unfolding wiring_at
  wiring_gives clause = gives_skip (wiring_start clause) (λ start. wires_at_gives scope.profile start.1)
