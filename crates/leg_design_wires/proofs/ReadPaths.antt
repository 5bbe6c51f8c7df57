-- The wires that a path says are such as a DEF can spell.
use Rattle.std.proofs.Common.{◌≡◌, ◌≢◌, ℕ, zero, suc, ℤ, pos, ◌+ℤ◌, ◌≤ℤ◌, ◌<ℤ◌, Bool, true, false, not, ◌&&◌, ◌==◌, cond, if◌then◌else◌, List, [], ◌∷◌, All, Option, None, Some, find, unwrap_or, inl, inr, refl, sym, ap, ◌∙◌, arith}
use Rattle.std.specs.Ordering.{int_eq}
use Rattle.std.specs.List.{list_any}
use Rattle.std.proofs.lemmas.Int.{ints}
use Rattle.std.proofs.lemmas.Bool.{and_parts, and_from, true≢false}
use Rattle.std.proofs.lemmas.Bool.Decides.{Decides-int_eq}
use Rattle.std.proofs.lemmas.List.Elements.{All-nil, All-cons, All-head, All-tail, All-append}
use Rattle.leg_lex.specs.Number.{IsNumber}
use Rattle.leg_geom.specs.Plane.{PointModel, RectModel, halfway}
use Rattle.leg_lib_records.specs.declared.records.Shape.{Shape}
use Rattle.leg_lib_records.specs.Records.{ViaModel}
use Rattle.leg_design_records.specs.declared.records.Wire.{Wire}
use Rattle.leg_design_records.specs.declared.records.Wire.TheVariants.{ViaAt, Patch}
use Rattle.leg_grammar.specs.Def.Guard.{when, is_within}
use Rattle.leg_grammar.specs.Def.CutArray.{is_area, area_of}
use Rattle.leg_design_records.specs.Layers.{width_of_layer, is_routing}
use Rattle.leg_grammar.specs.Def.NetScope.{NetScopeModel, via_numbered}
use Rattle.leg_design_records.specs.Wires.{is_even}
use Rattle.leg_grammar.specs.declared.path_item.Item.{Item}
use Rattle.leg_grammar.specs.declared.path_item.Item.TheVariants.{ToPoint, ToVirtual, AtVia, AtArray, AtRect}
use Rattle.leg_grammar.specs.declared.via_array.ViaArray.{ViaArray}
use Rattle.leg_grammar.specs.declared.path_width.PathWidth.{PathWidth}
use Rattle.leg_grammar.specs.declared.path_width.PathWidth.TheVariants.{OfLayers, OfRule, Written}
use Rattle.leg_grammar.specs.Def.ViaArray.{row_vias, rows_vias}
use Rattle.leg_grammar.specs.Def.Path.{next_spot, is_same_spot, last_given, extension_at, segment_width, plain_segment, other_width, line_sides, reach, wide_area, wide_segment, segment_under, segment_to, other_layer, across, wires_from, path_wires}
use Rattle.leg_design_records.specs.Wires.{is_straight, default_extension}
use Rattle.leg_design_records.specs.WellFormedParts.{IsPosition, IsArea}
use Rattle.leg_design_records.specs.WellFormedNets.{IsWireWidth, written, IsExtension, IsWire}
use Rattle.leg_design_common.proofs.Areas.{within_is, area_is}
use Rattle.leg_design_common.proofs.Gives.{Gives, gives_none, gives_some, gives_bind, gives_skip, gives_choice, gives_itself, when_gives, unless_gives}

-- an extension that is given
abbrev pub IsGiven : Option ℤ → Type 0
IsGiven None = Unit {0}
IsGiven (Some extension) = IsNumber extension × (pos 0 ≤ℤ extension)

abbrev pub IsNumberIfAny : Option ℤ → Type 0
IsNumberIfAny None = Unit {0}
IsNumberIfAny (Some z) = IsNumber z

-- an item of a path
abbrev pub IsItem : Bool → Item → Type 0
IsItem special (ToPoint x y extension) = IsNumberIfAny x × IsNumberIfAny y × IsGiven extension
IsItem special (ToVirtual x y) = IsNumberIfAny x × IsNumberIfAny y
IsItem special (AtVia via) = Unit {0}
IsItem special (AtArray via array) = Unit {0}
IsItem special (AtRect rect) = (special ≡ false) × IsArea rect

-- the width that is written: in SPECIALNETS only
abbrev IsWritten : Bool → Option ℤ → Type 0
IsWritten false None = Unit {0}
IsWritten false (Some width) = ⊥
IsWritten true None = ⊥
IsWritten true (Some width) = IsNumber width × (pos 0 ≤ℤ width) × (is_even width ≡ true)

-- the width of a path: a written one in SPECIALNETS, and another in NETS
abbrev pub IsWidth : Bool → PathWidth → Type 0
IsWidth special OfLayers = special ≡ false
IsWidth special (OfRule rule) = special ≡ false
IsWidth special (Written width) = (special ≡ true) × IsNumber width × (pos 0 ≤ℤ width) × (is_even width ≡ true)

coordinate_is : (z : Option ℤ) (before : ℤ) → IsNumberIfAny z → IsNumber before → IsNumber (unwrap_or z before)
coordinate_is None before number at = at
coordinate_is (Some z) before number at = number

next_is : (at : PointModel) (x y : Option ℤ) → IsPosition at → IsNumberIfAny x → IsNumberIfAny y → IsPosition (next_spot at x y)
next_is at x y position wide high = record { x = coordinate_is x at.x wide position.x; y = coordinate_is y at.y high position.y }

last_is_given : (before after : Option ℤ) → IsGiven before → IsGiven after → IsGiven (last_given before after)
last_is_given before None first second = first
last_is_given before (Some extension) first second = second

either_given : (test : Bool) (a b : Option ℤ) → IsGiven a → IsGiven b → IsGiven (if test then a else b)
either_given true a b first second = first
either_given false a b first second = second

extension_is : (special : Bool) (items : List Item) (at : PointModel) (given : Option ℤ) → All (IsItem special) items → IsGiven given
    → IsGiven (extension_at at given items)
unfolding extension_at
extension_is special [] at given each is = is
extension_is special (ToPoint x y extension ∷ items) at given each is =
    let item = All-head (IsItem special) (ToPoint x y extension) items each in
    let rest = All-tail (IsItem special) (ToPoint x y extension) items each in
    either_given (is_same_spot at (next_spot at x y)) (extension_at at (last_given given extension) items) given
    (extension_is special items at (last_given given extension) rest (last_is_given given extension is item.2)) is
extension_is special (ToVirtual x y ∷ items) at given each is = is
extension_is special (AtVia via ∷ items) at given each is =
    extension_is special items at given (All-tail (IsItem special) (AtVia via) items each) is
extension_is special (AtArray via array ∷ items) at given each is =
    extension_is special items at given (All-tail (IsItem special) (AtArray via array) items each) is
extension_is special (AtRect rect ∷ items) at given each is =
    extension_is special items at given (All-tail (IsItem special) (AtRect rect) items each) is

same_spot : (p q : PointModel) → p ≡ q → is_same_spot p q ≡ true
same_spot p q same =
    and_from (int_eq p.x q.x) (int_eq p.y q.y) ((Decides-int_eq p.x q.x).1 (ap (λ (s : PointModel). s.x) same))
    ((Decides-int_eq p.y q.y).1 (ap (λ (s : PointModel). s.y) same))

other_spot : (p q : PointModel) → is_same_spot p q ≡ false → p ≢ q
other_spot p q other = λ same. true≢false (sym (same_spot p q same) ∙ other)

above_zero : (width : ℤ) → pos 0 ≤ℤ width → int_eq width (pos 0) ≡ false → pos 0 <ℤ width
above_zero width least other =
    let apart : width ≢ pos 0 = λ same. true≢false (sym ((Decides-int_eq width (pos 0)).1 same) ∙ other) in
    omega (arith, ints)

-- an end of a segment: a position, and an extension if one is given
record IsSegmentEnd (at : PointModel) (extension : Option ℤ) : Type 0 where
  position : IsPosition at
  given : IsGiven extension

module _ (scope : NetScopeModel) (special : Bool) where
  width_gives : (width : Option ℤ) (layer : ℕ) → IsWritten special width
      → Gives (IsWireWidth scope.library special layer) (segment_width scope.library width layer)
  unfolding segment_width
  width_gives width layer is = by special width is where
    by : (special : Bool) (width : Option ℤ) → IsWritten special width
        → Gives (IsWireWidth scope.library special layer) (segment_width scope.library width layer)
    by false None is = gives_itself (width_of_layer scope.library layer)
    by false (Some width) is = absurd is
    by true None is = absurd is
    by true (Some width) is =
        gives_bind (unless_gives (int_eq width (pos 0))) (λ some other. gives_some width (is.0, above_zero width is.1 other, is.2))

  default_is : (width : Option ℤ) (layer : ℕ) → IsWritten special width
      → default_extension scope.library width layer ≡ default_extension scope.library (written special) layer
  unfolding default_extension
  default_is width layer is = by special width is where
    by : (special : Bool) (width : Option ℤ) → IsWritten special width
        → default_extension scope.library width layer ≡ default_extension scope.library (written special) layer
    by false None is = refl
    by false (Some width) is = absurd is
    by true None is = absurd is
    by true (Some width) is = refl

  extension_holds : (width : Option ℤ) (layer : ℕ) (extension : Option ℤ) → IsWritten special width → IsGiven extension
      → IsExtension scope.library special layer (unwrap_or extension (default_extension scope.library width layer))
  extension_holds width layer None is given = inr (default_is width layer is)
  extension_holds width layer (Some extension) is given = inl given

  find_gives : (test : Shape → Bool) (shapes : List Shape) → Gives (λ shape. test shape ≡ true) (find test shapes)
  find_gives test [] = gives_none
  find_gives test (shape ∷ shapes) = by (test shape) refl (find_gives test shapes) where
    by : (here : Bool) → test shape ≡ here → Gives (λ shape. test shape ≡ true) (find test shapes)
        → Gives (λ shape. test shape ≡ true) (cond here (Some shape) (find test shapes))
    by true here rest = gives_some shape here
    by false there rest = rest

  other_gives : (layer : ℕ) (shapes : List Shape) → Gives (λ other. is_routing scope.library other ≡ true) (other_layer scope.library layer shapes)
  other_gives layer shapes =
      gives_bind (find_gives (λ shape. is_routing scope.library shape.layer && not (shape.layer == layer)) shapes) (λ shape other.
      gives_some shape.layer (and_parts (is_routing scope.library shape.layer) (not (shape.layer == layer)) other).0)

  -- a good via leads to a routing layer
  record LeadsTo (number other : ℕ) : Type 0 where
    via : ViaModel
    there : via_numbered scope number ≡ Some via
    good : via.good ≡ true
    routes : is_routing scope.library other ≡ true

  across_gives : (number layer : ℕ) → Gives (LeadsTo number) (across scope number layer)
  unfolding across
  across_gives number layer =
      gives_bind (gives_itself (via_numbered scope number)) (λ via there.
      gives_bind (when_gives via.good) (λ is_good good.
      gives_skip (when (list_any (λ shape. shape.layer == layer) via.shapes)) (λ meets.
      record { given = λ other is. record { via = via; there = there; good = good; routes = (other_gives layer via.shapes).given other is } })))

  abbrev pub AreWires : List Wire → Type 0
  AreWires wires = All (IsWire scope.library scope.vias special) wires

  plain_gives : (width : Option ℤ) → IsWritten special width → (layer : ℕ) (at : PointModel) (extension : Option ℤ) (to : PointModel) (there : Option ℤ)
      → is_routing scope.library layer ≡ true → IsSegmentEnd at extension → IsSegmentEnd to there → is_same_spot at to ≡ false
      → Gives (IsWire scope.library scope.vias special) (plain_segment scope.library width layer at extension to there)
  unfolding plain_segment
  plain_gives width is layer at extension to there routes start end other =
      gives_bind (when_gives (is_straight at to)) (λ straight is_straight_.
      gives_bind (width_gives width layer is) (λ wide is_width.
      gives_some _ (record {
        routes = routes;
        from_ = start.position;
        to_ = end.position;
        straight = is_straight_;
        long = other_spot at to other;
        width_ = is_width;
        from_extension = extension_holds width layer extension is start.given;
        to_extension = extension_holds width layer there is end.given;
      })))

  -- metal that is given by its sides
  area_gives : (sides : RectModel) → Gives IsArea (area_of sides)
  unfolding area_of
  area_gives sides = gives_choice (is_area sides) (λ test. gives_some sides (area_is sides test)) (λ none. gives_none)

  wide_gives : special ≡ false → (width : ℤ) (layer : ℕ) (at : PointModel) (extension : Option ℤ) (to : PointModel) (there : Option ℤ)
      → is_routing scope.library layer ≡ true → IsPosition at
      → Gives (IsWire scope.library scope.vias special) (wide_segment width layer at extension to there)
  unfolding wide_segment wide_area
  wide_gives in_nets width layer at extension to there routes position =
      gives_skip (when (is_straight at to)) (λ straight.
      gives_skip (when (is_even width)) (λ even.
      gives_bind (gives_skip (when (is_within width && is_within (reach width extension) && is_within (reach width there))) (λ within.
      area_gives (line_sides at to (halfway (pos 0) width) (reach width extension) (reach width there)))) (λ rect area.
      gives_some (Patch layer at rect) (in_nets, routes, position, area))))

  segment_gives : (width : PathWidth) → IsWidth special width → (layer : ℕ) (at : PointModel) (extension : Option ℤ) (to : PointModel) (there : Option ℤ)
      → is_routing scope.library layer ≡ true → IsSegmentEnd at extension → IsSegmentEnd to there → is_same_spot at to ≡ false
      → Gives (IsWire scope.library scope.vias special) (segment_to scope width layer at extension to there)
  unfolding segment_to segment_under
  segment_gives OfLayers is layer at extension to there routes start end other =
      plain_gives None (rw is tt) layer at extension to there routes start end other
  segment_gives (OfRule rule) is layer at extension to there routes start end other = by (other_width scope rule layer) where
    by : (wide : Option ℤ) → Gives (IsWire scope.library scope.vias special) (segment_under scope.library wide layer at extension to there)
    by None = plain_gives None (rw is tt) layer at extension to there routes start end other
    by (Some width) = wide_gives is width layer at extension to there routes start.position
  segment_gives (Written width) is layer at extension to there routes start end other =
      plain_gives (Some width) (rw is.0 (is.1, is.2, is.3)) layer at extension to there routes start end other

  -- a via of an array, where its point is within the limit
  is_via : (number other : ℕ) (at : PointModel) → LeadsTo number other → IsPosition at → IsWire scope.library scope.vias special (ViaAt number at)
  is_via number other at leads position = (position, (leads.via, leads.there, leads.good))

  row_gives : (number other : ℕ) → LeadsTo number other → (step : ℤ) (n : ℕ) (at : PointModel) → IsNumber at.y → Gives AreWires (row_vias number step n at)
  unfolding row_vias
  row_gives number other leads step zero at high = gives_some [] (All-nil (IsWire scope.library scope.vias special))
  row_gives number other leads step (suc n) at high =
      gives_bind (when_gives (is_within at.x)) (λ within wide.
      gives_bind (row_gives number other leads step n (record { x = at.x +ℤ step; y = at.y }) high) (λ others are.
      gives_some _ (All-cons (IsWire scope.library scope.vias special) (ViaAt number at) others
      (is_via number other at leads (record { x = within_is at.x wide; y = high })) are)))

  rows_give : (number other : ℕ) → LeadsTo number other → (array : ViaArray) (n : ℕ) (at : PointModel) → Gives AreWires (rows_vias number array n at)
  unfolding rows_vias
  rows_give number other leads array zero at = gives_some [] (All-nil (IsWire scope.library scope.vias special))
  rows_give number other leads array (suc n) at =
      gives_bind (when_gives (is_within at.y)) (λ within high.
      gives_bind (row_gives number other leads array.x_step array.columns at (within_is at.y high)) (λ row in_row.
      gives_bind (rows_give number other leads array n (record { x = at.x; y = at.y +ℤ array.y_step })) (λ others are.
      gives_some _ (All-append (IsWire scope.library scope.vias special) row others in_row are))))

  pub wires_give : (width : PathWidth) → IsWidth special width → (items : List Item) (layer : ℕ) (at : PointModel) (extension : Option ℤ)
      → is_routing scope.library layer ≡ true → IsPosition at → IsGiven extension → All (IsItem special) items
      → Gives AreWires (wires_from scope width layer at extension items)
  unfolding wires_from
  wires_give width is [] layer at extension routes position given each = gives_some [] (All-nil (IsWire scope.library scope.vias special))
  wires_give width is (ToPoint x y next ∷ items) layer at extension routes position given each =
      let item = All-head (IsItem special) (ToPoint x y next) items each in
      let rest = All-tail (IsItem special) (ToPoint x y next) items each in
      let there = next_is at x y position item.0 item.1 in
      let further = extension_is special items (next_spot at x y) next rest item.2 in
      gives_choice (is_same_spot at (next_spot at x y)) (λ same. wires_give width is items layer at extension routes position given rest) (λ other.
      gives_bind (segment_gives width is layer at extension (next_spot at x y)
      (extension_at (next_spot at x y) next items) routes (record { position = position; given = given }) (record { position = there; given = further }) other)
      (λ segment spelled.
      gives_bind (wires_give width is items layer (next_spot at x y) (extension_at (next_spot at x y) next items) routes there further rest) (λ wires are.
      gives_some _ (All-cons (IsWire scope.library scope.vias special) segment wires spelled are))))
  wires_give width is (ToVirtual x y ∷ items) layer at extension routes position given each =
      let item = All-head (IsItem special) (ToVirtual x y) items each in
      let rest = All-tail (IsItem special) (ToVirtual x y) items each in
      wires_give width is items layer (next_spot at x y) (extension_at (next_spot at x y) None items) routes
      (next_is at x y position item.0 item.1) (extension_is special items (next_spot at x y) None rest tt) rest
  wires_give width is (AtVia via ∷ items) layer at extension routes position given each =
      gives_bind (across_gives via layer) (λ other leads.
      gives_bind (wires_give width is items other at extension leads.routes position given (All-tail (IsItem special) (AtVia via) items each)) (λ wires are.
      gives_some _ (All-cons (IsWire scope.library scope.vias special) (ViaAt via at) wires (is_via via other at leads position) are)))
  wires_give width is (AtArray via array ∷ items) layer at extension routes position given each =
      gives_bind (across_gives via layer) (λ other leads.
      gives_bind (rows_give via other leads array array.rows at) (λ vias in_array.
      let rest = All-tail (IsItem special) (AtArray via array) items each in
      gives_bind (wires_give width is items other at extension leads.routes position given rest) (λ wires are.
      gives_some _ (All-append (IsWire scope.library scope.vias special) vias wires in_array are))))
  wires_give width is (AtRect rect ∷ items) layer at extension routes position given each =
      let item = All-head (IsItem special) (AtRect rect) items each in
      gives_bind (wires_give width is items layer at extension routes position given (All-tail (IsItem special) (AtRect rect) items each)) (λ wires are.
      gives_some _ (All-cons (IsWire scope.library scope.vias special) (Patch layer at rect) wires (item.0, routes, position, item.1) are))

  pub path_gives : (width : PathWidth) (layer : ℕ) (first : PointModel) (given : Option ℤ) (items : List Item) → IsWidth special width
      → is_routing scope.library layer ≡ true → IsPosition first → IsGiven given → All (IsItem special) items
      → Gives AreWires (path_wires scope width layer first given items)
  path_gives width layer first given items is routes position is_given each =
      wires_give width is items layer first (extension_at first given items) routes position (extension_is special items first given each is_given) each
