-- A path that is followed item by item.
use Rattle.std.proofs.Common.{◌≡◌, ℕ, ℤ, ◌+◌, ◌<◌, ◌≤◌, Bool, true, false, List, [], ◌∷◌, ◌++◌, length, ◌-◌, get_or, take, drop, Option, None, Some, refl, sym, ap, ◌∙◌}
use Rattle.std.proofs.lemmas.List.{drop_more, drop_all, append-nil, take_rest}
use Rattle.leg_lex.specs.Words.{◌>>=◌}
use Rattle.leg_geom.specs.Plane.{PointModel, RectModel}
use Rattle.leg_grammar.specs.declared.path_item.Item.{Item}
use Rattle.leg_grammar.specs.declared.path_item.Item.TheVariants.{ToPoint, ToVirtual, AtVia, AtArray, AtRect}
use Rattle.leg_grammar.specs.declared.via_array.ViaArray.{ViaArray}
use Rattle.leg_grammar.specs.Def.ViaArray.{array_vias}
use Rattle.leg_grammar.specs.declared.path_width.PathWidth.{PathWidth}
use Rattle.leg_design_records.specs.declared.records.Wire.{Wire}
use Rattle.leg_design_records.specs.declared.records.Wire.TheVariants.{ViaAt, Patch}
use Rattle.leg_grammar.specs.Def.NetScope.{NetScopeModel}
use Rattle.leg_grammar.specs.Def.Path.{next_spot, is_same_spot, extension_at, segment_to, across, wires_from}
use Rattle.leg_design_wires.specs.Steps.Walk.{PathState, wires_with, walked_to, walked_past_array, walked_past}
use Rattle.leg_design_wires.proofs.ViaArrays.{one_before, many_before}

module _ (scope : NetScopeModel) (width : PathWidth) where
  -- the segment to a point, before these items
  abbrev segment_then : PathState → PointModel → Option ℤ → List Item → Option Wire
  segment_then walk to given later = segment_to scope width walk.layer walk.at walk.extension to (extension_at to given later)

  -- what is there behind it
  abbrev after_segment : PathState → PointModel → Option ℤ → List Item → Wire → PathState
  after_segment walk to given later wire = record { layer = walk.layer; at = to; extension = extension_at to given later; wires = walk.wires ++ wire ∷ [] }

  -- the same point again
  point_same : (walk : PathState) (x y given : Option ℤ) (later : List Item) → is_same_spot walk.at (next_spot walk.at x y) ≡ true
      → wires_with scope width walk (ToPoint x y given ∷ later) ≡ wires_with scope width walk later
  unfolding wires_from
  point_same walk x y given later same = rw same refl

  -- another point
  point_made : (walk : PathState) (x y given : Option ℤ) (later : List Item) (wire : Wire) → is_same_spot walk.at (next_spot walk.at x y) ≡ false
      → segment_then walk (next_spot walk.at x y) given later ≡ Some wire
      → wires_with scope width walk (ToPoint x y given ∷ later) ≡ wires_with scope width (after_segment walk (next_spot walk.at x y) given later wire) later
  unfolding wires_from
  point_made walk x y given later wire apart made =
      rw (apart, made) (one_before walk.wires wire (wires_from scope width walk.layer (next_spot walk.at x y)
      (extension_at (next_spot walk.at x y) given later) later))

  -- another point, to which no segment leads
  point_stuck : (walk : PathState) (x y given : Option ℤ) (later : List Item) → is_same_spot walk.at (next_spot walk.at x y) ≡ false
      → segment_then walk (next_spot walk.at x y) given later ≡ None → wires_with scope width walk (ToPoint x y given ∷ later) ≡ None
  unfolding wires_from
  point_stuck walk x y given later apart none = rw (apart, none) refl

  -- the wires after an item, if it can be passed
  abbrev Onwards : PathState → Item → List Item → Type 0
  Onwards walk item later =
      wires_with scope width walk (item ∷ later) ≡ (walked_past scope width item later walk >>= λ next. wires_with scope width next later)

  past_point : (walk : PathState) (x y given : Option ℤ) (later : List Item) (same : Bool) → is_same_spot walk.at (next_spot walk.at x y) ≡ same
      → (said : Option Wire) → segment_then walk (next_spot walk.at x y) given later ≡ said → Onwards walk (ToPoint x y given) later
  unfolding walked_past walked_to
  past_point walk x y given later true same said is = point_same walk x y given later same ∙ rw same refl
  past_point walk x y given later false apart None is = point_stuck walk x y given later apart is ∙ rw (apart, is) refl
  past_point walk x y given later false apart (Some wire) is = point_made walk x y given later wire apart is ∙ rw (apart, is) refl

  past_via : (walk : PathState) (via : ℕ) (later : List Item) (said : Option ℕ) → across scope via walk.layer ≡ said → Onwards walk (AtVia via) later
  unfolding wires_from walked_past
  past_via walk via later None is = rw is refl
  past_via walk via later (Some other) is = rw is (one_before walk.wires (ViaAt via walk.at) (wires_from scope width other walk.at walk.extension later))

  past_rect : (walk : PathState) (rect : RectModel) (later : List Item) → Onwards walk (AtRect rect) later
  unfolding wires_from walked_past
  past_rect walk rect later = one_before walk.wires (Patch walk.layer walk.at rect) (wires_from scope width walk.layer walk.at walk.extension later)

  past_array : (walk : PathState) (via : ℕ) (array : ViaArray) (later : List Item) (other : Option ℕ) → across scope via walk.layer ≡ other
      → (vias : Option (List Wire)) → array_vias via array walk.at ≡ vias → Onwards walk (AtArray via array) later
  unfolding wires_from walked_past walked_past_array
  past_array walk via array later None is vias said = rw is refl
  past_array walk via array later (Some layer) is None said = rw (is, said) refl
  past_array walk via array later (Some layer) is (Some vias) said =
      rw (is, said) (many_before walk.wires vias (wires_from scope width layer walk.at walk.extension later))

  past_virtual : (walk : PathState) (x y : Option ℤ) (later : List Item) → Onwards walk (ToVirtual x y) later
  unfolding wires_from walked_past
  past_virtual walk x y later = refl

  past_item : (walk : PathState) (item : Item) (later : List Item) → Onwards walk item later
  past_item walk (ToPoint x y given) later = past_point walk x y given later _ refl _ refl
  past_item walk (ToVirtual x y) later = past_virtual walk x y later
  past_item walk (AtVia via) later = past_via walk via later _ refl
  past_item walk (AtArray via array) later = past_array walk via array later _ refl _ refl
  past_item walk (AtRect rect) later = past_rect walk rect later

at_front : (items : List Item) (i : ℕ) (item : Item) → i < length items → item ≡ get_or items i item
    → drop i items ≡ item ∷ take (length items - (i + 1)) (drop (i + 1) items)
at_front items i item less is =
    drop_more items i item less ∙ ap (λ y. y ∷ drop (i + 1) items) (sym is) ∙ ap (λ rest. item ∷ rest) (sym (take_rest items (i + 1)))

-- The path is followed past one more item.
pub walk_on : (scope : NetScopeModel) (width : PathWidth) (walk next : PathState) (items : List Item) (i : ℕ) (item : Item) → i < length items
    → item ≡ get_or items i item → walked_past scope width item (take (length items - (i + 1)) (drop (i + 1) items)) walk ≡ Some next
    → wires_with scope width walk (drop i items) ≡ wires_with scope width next (drop (i + 1) items)
walk_on scope width walk next items i item less is said =
    let later = take (length items - (i + 1)) (drop (i + 1) items) in
    ap (wires_with scope width walk) (at_front items i item less is) ∙ past_item scope width walk item later
    ∙ rw said (ap (wires_with scope width next) (take_rest items (i + 1)))

-- The item can't be passed.
pub walk_fails : (scope : NetScopeModel) (width : PathWidth) (walk : PathState) (items : List Item) (i : ℕ) (item : Item) → i < length items
    → item ≡ get_or items i item → walked_past scope width item (take (length items - (i + 1)) (drop (i + 1) items)) walk ≡ None
    → wires_with scope width walk (drop i items) ≡ None
walk_fails scope width walk items i item less is said =
    let later = take (length items - (i + 1)) (drop (i + 1) items) in
    ap (wires_with scope width walk) (at_front items i item less is) ∙ past_item scope width walk item later ∙ rw said refl

-- No item is left.
pub walk_ends : (scope : NetScopeModel) (width : PathWidth) (walk : PathState) (items : List Item) (i : ℕ) → length items ≤ i
    → wires_with scope width walk (drop i items) ≡ Some walk.wires
unfolding wires_from
walk_ends scope width walk items i past = rw (drop_all i items past) (ap Some (append-nil walk.wires))
