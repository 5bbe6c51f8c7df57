-- The path of each wire is read as the wire, and paths joined by NEW as all of them.
use Rattle.std.proofs.Common.{◌≡◌, ◌≢◌, ℕ, ◌≤◌, ℤ, pos, ◌≤ℤ◌, ◌<ℤ◌, inl, inr, int_lt, Bool, true, false, ◌&&◌, unwrap_or, List, [], ◌∷◌, ◌++◌, map, drop, Option, None, Some, codes, refl, sym, ap, ◌∙◌, arith}
use Rattle.std.specs.Char.{to_ascii_lowercase}
use Rattle.std.specs.Fmt.{signed_decimal}
use Rattle.std.specs.Ordering.{int_eq}
use Rattle.std.proofs.lemmas.Bool.{false≢true}
use Rattle.std.proofs.lemmas.Bool.Decides.{nat_tests}
use Rattle.std.proofs.lemmas.Int.{ints}
use Rattle.leg_lemmas.proofs.Integers.{eq_from_test}
use Rattle.leg_lex.specs.Words.{Words, ◌>>=◌, is_keyword, is_name, is_plain, is_mark_byte, is_at, next_at, keyword_at, mark_at, name_at}
use Rattle.leg_lex.specs.Number.{IsNumber}
use Rattle.leg_lex.specs.Until.{steps}
use Rattle.leg_lex.proofs.NameLookup.{same_name}
use Rattle.leg_print_words.proofs.Numbers.{number_word}
use Rattle.leg_geom.specs.Plane.{PointModel, RectModel}
use Rattle.leg_geom.specs.declared.orient.Orient.{Orient}
use Rattle.leg_geom.proofs.Points.{same_point}
use Rattle.leg_lib_records.specs.Joins.{is_wiring_word, wiring_words}
use Rattle.leg_lib_records.specs.Records.{LibraryModel}
use Rattle.leg_design_records.specs.declared.records.Wire.TheVariants.{Segment, ViaAt, Patch}
use Rattle.leg_design_records.specs.Layers.{is_routing}
use Rattle.leg_design_records.specs.Wires.{is_straight, default_extension, is_even}
use Rattle.leg_design_records.specs.WellFormedParts.{IsPosition, IsArea}
use Rattle.leg_design_records.specs.WellFormedNets.{IsWireWidth, written, IsExtension}
use Rattle.leg_grammar.specs.declared.profile.Profile.TheVariants.{Narrow}
use Rattle.leg_grammar.specs.Def.Count.{count_at}
use Rattle.leg_grammar.specs.Mask.{past_mask}
use Rattle.leg_grammar.specs.Def.Placement.{orient_at}
use Rattle.leg_grammar.specs.Def.Turns.{turn_number}
use Rattle.leg_grammar.specs.Def.NetScope.{NetScopeModel, via_named}
use Rattle.leg_grammar.specs.declared.path_width.PathWidth.{PathWidth}
use Rattle.leg_grammar.specs.declared.path_width.PathWidth.TheVariants.{OfLayers, Written}
use Rattle.leg_grammar.specs.Def.Path.{is_same_spot, extension_at, segment_width, plain_segment, segment_to, across, wires_from}
use Rattle.leg_grammar.specs.Def.PathItem.{coordinate_at, extension_in_point, point_item, first_point_at, rect_item, past_north, via_at, via_item, other_item, item_without_mask, item_at, one_item, at_path_end, turn_of_via_at, upright_via_at}
use Rattle.leg_grammar.specs.Def.Wiring.{routing_at, past_taper, written_width_at, taper_at, path_width_at, path_at}
use Rattle.leg_output.specs.Text.Points.{spot_words}
use Rattle.leg_output.specs.Text.Wires.{width_words, point_words, given_extension}
use Rattle.leg_print_laws.proofs.FreeWords.{first_is_none, others_are_none, no_mark_byte, name_is_word}
use Rattle.leg_print_laws.proofs.Points.{number_again, between_again}
use Rattle.leg_print_laws.proofs.Tracks.{IsLayerName}

-- a name among words isn't a mark in any letters
lower_mark : (c m : ℕ) → m ≤ 64 → to_ascii_lowercase c ≡ m → c ≡ m
lower_mark c m small is = grind (arith, nat_tests)

same_letter : (word : List ℕ) (m : ℕ) → m ≤ 64 → map to_ascii_lowercase word ≡ m ∷ [] → word ≡ m ∷ []
same_letter [] m small is = absurd (let e : ⊥ = cc in e)
same_letter (c ∷ []) m small is = ap (λ b. b ∷ []) (lower_mark c m small (first_of is)) where
  first_of : (to_ascii_lowercase c ∷ []) ≡ m ∷ [] → to_ascii_lowercase c ≡ m
  first_of is = cc
same_letter (c ∷ d ∷ word) m small is = absurd (let e : ⊥ = cc in e)

mark_lower : (m : ℕ) → m ≤ 64 → to_ascii_lowercase m ≡ m
mark_lower m small = grind (arith, nat_tests)

name_no_mark : (plain : Bool) → (plain && false) ≡ true → ⊥
name_no_mark true is = false≢true is
name_no_mark false is = false≢true is

pub no_mark : (m : ℕ) → is_mark_byte m ≡ true → m ≤ 64 → (word : List ℕ) → is_name word ≡ true → is_keyword (m ∷ []) word ≡ false
no_mark m mark small word name = by (is_keyword (m ∷ []) word) refl where
  by : (same : Bool) → is_keyword (m ∷ []) word ≡ same → is_keyword (m ∷ []) word ≡ false
  by false is = is
  by true is =
      let e : word ≡ m ∷ [] =
      same_letter word m small (same_name (map to_ascii_lowercase word) (map to_ascii_lowercase (m ∷ [])) is ∙ ap (λ b. b ∷ []) (mark_lower m small)) in
      let named : is_name (m ∷ []) ≡ true = rw e at name in
      absurd (name_no_mark (is_plain (m ∷ [])) (rw mark at named))

pub no_mark_number : (m : ℕ) → is_mark_byte m ≡ true → m ≤ 64 → (z : ℤ) → IsNumber z → is_keyword (m ∷ []) (signed_decimal z) ≡ false
no_mark_number m mark small z is = no_mark m mark small (signed_decimal z) (number_word z is).name

-- An extension that is given is a number of at least 0.
abbrev pub IsGiven : Option ℤ → Type 0
IsGiven None = Unit {0}
IsGiven (Some z) = IsNumber z × (pos 0 ≤ℤ z)

not_below : (z : ℤ) → pos 0 ≤ℤ z → int_lt z (pos 0) ≡ false
not_below z le = grind (arith, ints)

first_point_again : (p : PointModel) (extension : Option ℤ) (rest : Words) → IsPosition p → IsGiven extension
    → first_point_at (point_words p extension ++ rest) ≡ Some ((p, extension), rest)
unfolding first_point_at extension_in_point count_at mark_at next_at
first_point_again p None rest is given = rw (number_again p.x _ is.x, number_again p.y _ is.y) refl
first_point_again p (Some z) rest is given =
    rw (number_again p.x _ is.x, number_again p.y _ is.y, no_mark_number 41 refl (omega arith) z given.0, number_again z _ given.0, not_below z given.1) refl

-- the width that a path writes
abbrev pub written_as : Bool → ℤ → Option ℤ
written_as false width = None
written_as true width = Some width

abbrev width_as : Bool → ℤ → PathWidth
width_as false width = OfLayers
width_as true width = Written width

abbrev IsWritten : Bool → ℤ → Type 0
IsWritten false width = Unit {0}
IsWritten true width = IsNumber width × (pos 0 ≤ℤ width) × (is_even width ≡ true)

written_again : (scope : NetScopeModel) → scope.profile ≡ Narrow → (special : Bool) (width : ℤ) (rest : Words) → IsWritten special width
    → path_width_at scope special (width_words special width ++ (codes "(" ∷ rest)) ≡ Some (width_as special width, codes "(" ∷ rest)
unfolding path_width_at taper_at past_taper written_width_at count_at steps
written_again scope narrow false width rest is = rw narrow refl
written_again scope narrow true width rest is = rw (number_again width _ is.0, not_below width is.1, is.2) refl

-- a step to another point
other_spot : (p q : PointModel) → p ≢ q → is_same_spot p q ≡ false
other_spot p q apart = by (int_eq p.x q.x) (int_eq p.y q.y) refl refl where
  by : (x y : Bool) → int_eq p.x q.x ≡ x → int_eq p.y q.y ≡ y → is_same_spot p q ≡ false
  by false y at of = rw at refl
  by true false at of = rw (at, of) refl
  by true true at of = absurd (apart (same_point p q (eq_from_test p.x q.x at) (eq_from_test p.y q.y of)))

-- the width of a segment, and the extension that holds where none is given
width_again : (library : LibraryModel) (special : Bool) (layer : ℕ) (width : ℤ) → IsWireWidth library special layer width
    → segment_width library (written_as special width) layer ≡ Some width
unfolding segment_width
width_again library false layer width is = is
width_again library true layer width is = rw (not_zero width is.1) refl where
  not_zero : (w : ℤ) → pos 0 <ℤ w → int_eq w (pos 0) ≡ false
  not_zero w above = grind (arith, ints)

same_default : (library : LibraryModel) (special : Bool) (layer : ℕ) (width : ℤ)
    → default_extension library (written_as special width) layer ≡ default_extension library (written special) layer
unfolding default_extension
same_default library false layer width = refl
same_default library true layer width = refl

width_written : (library : LibraryModel) (special : Bool) (layer : ℕ) (width : ℤ) → IsWireWidth library special layer width → IsWritten special width
width_written library false layer width is = tt
width_written library true layer width is = (is.0, at_least width is.1, is.2) where
  at_least : (w : ℤ) → pos 0 <ℤ w → pos 0 ≤ℤ w
  at_least w above = omega (arith, ints)

-- the segment of a path of this width
segment_again : (scope : NetScopeModel) (special : Bool) (layer : ℕ) (width : ℤ) (from to : PointModel) (first next : Option ℤ) → is_straight from to ≡ true
    → IsWireWidth scope.library special layer width
    → segment_to scope (width_as special width) layer from first to next
    ≡ Some (Segment layer from to width (unwrap_or first (default_extension scope.library (written_as special width) layer))
    (unwrap_or next (default_extension scope.library (written_as special width) layer)))
unfolding segment_to plain_segment
segment_again scope false layer width from to first next straight is = rw (straight, width_again scope.library false layer width is) refl
segment_again scope true layer width from to first next straight is = rw (straight, width_again scope.library true layer width is) refl

-- what is known of a layer that a path is on
pub record IsPathLayer (library : LibraryModel) (layer : ℕ) (name : List ℕ) : Type 0 where
  pub named : IsLayerName library layer name
  pub routes : is_routing library layer ≡ true

-- the name of a via that leads from the layer to another one, a name that begins no other item of a path
pub record IsViaName (scope : NetScopeModel) (layer : ℕ) (via : List ℕ) (number other : ℕ) : Type 0 where
  pub named : is_name via ≡ true
  pub free : is_wiring_word via ≡ false
  pub there : via_named scope via ≡ Some number
  pub leads : across scope number layer ≡ Some other
  pub upright : scope.turned ≡ []

-- the number of a via in the orientation that was read, if it is turned so
abbrev number_turned : NetScopeModel → ℕ → Option (Orient × Words) → Option (ℕ × Words)
number_turned scope via said = do
  orient ← said
  number ← turn_number scope.turned via orient.0
  Some (number, orient.1)

-- where no via is turned, an orientation behind one is none of it
no_turn : (scope : NetScopeModel) (via : ℕ) (words : Words) → scope.turned ≡ [] → turn_of_via_at scope via words ≡ None
unfolding turn_of_via_at
no_turn scope via words none = by (orient_at words) where
  by : (said : Option (Orient × Words)) → number_turned scope via said ≡ None
  by None = refl
  by (Some orient) = rw none refl

module _ (scope : NetScopeModel) (narrow : scope.profile ≡ Narrow) (special : Bool) (layer : ℕ) (name : List ℕ)
    (is_layer : IsPathLayer scope.library layer name) where
  layer_again : (rest : Words) → routing_at scope.library (name ∷ rest) ≡ Some (layer, rest)
  unfolding routing_at name_at next_at
  layer_again rest = rw (is_layer.named.is_one, is_layer.named.there, is_layer.routes) refl

  -- an item that begins with a parenthesis is a point
  point_item_is : (rest : Words) → item_at scope special (codes "(" ∷ rest) ≡ point_item (codes "(" ∷ rest)
  unfolding item_at item_without_mask past_mask
  point_item_is rest = rw narrow refl

  module _ (from to : PointModel) (width : ℤ) (is_from : IsPosition from) (is_to : IsPosition to) (straight : is_straight from to ≡ true) (long : from ≢ to)
      (is_width : IsWireWidth scope.library special layer width) where
    pub segment_path : (first next : Option ℤ) (rest : Words) → IsGiven first → IsGiven next → at_path_end rest ≡ true
        → path_at scope special (name ∷ (width_words special width ++ (point_words from first ++ (point_words to next ++ rest))))
        ≡ Some (
          Segment layer from to width (unwrap_or first (default_extension scope.library (written_as special width) layer))
              (unwrap_or next (default_extension scope.library (written_as special width) layer)) ∷ [],
          rest,
        )
    unfolding path_at next_at steps one_item point_item coordinate_at extension_in_point count_at mark_at wires_from extension_at
    segment_path first None rest is_first is_next ends =
        rw (
          layer_again _,
          written_again scope narrow special width _ (width_written scope.library special layer width is_width),
          first_point_again from first _ is_from is_first,
          point_item_is _,
          no_mark_number 42 refl (omega arith) to.x is_to.x,
          number_again to.x _ is_to.x,
          no_mark_number 42 refl (omega arith) to.y is_to.y,
          number_again to.y _ is_to.y,
          ends,
          other_spot from to long,
          segment_again scope special layer width from to first None straight is_width,
        ) refl
    segment_path first (Some z) rest is_first is_next ends =
        rw (
          layer_again _,
          written_again scope narrow special width _ (width_written scope.library special layer width is_width),
          first_point_again from first _ is_from is_first,
          point_item_is _,
          no_mark_number 42 refl (omega arith) to.x is_to.x,
          number_again to.x _ is_to.x,
          no_mark_number 42 refl (omega arith) to.y is_to.y,
          number_again to.y _ is_to.y,
          no_mark_number 41 refl (omega arith) z is_next.0,
          number_again z _ is_next.0,
          not_below z is_next.1,
          ends,
          other_spot from to long,
          segment_again scope special layer width from to first (Some z) straight is_width,
        ) refl

  -- a via, where its path begins on a layer from which it leads to another
  pub via_path : (at : PointModel) (number other : ℕ) (via : List ℕ) (rest : Words) → IsPosition at → IsViaName scope layer via number other
      → at_path_end rest ≡ true → is_at (codes "N") rest ≡ false
      → path_at scope special (name ∷ (width_words special (pos 0) ++ (point_words at None ++ (via ∷ rest)))) ≡ Some (ViaAt number at ∷ [], rest)
  unfolding path_at name_at next_at steps one_item item_at item_without_mask past_mask other_item via_item via_at upright_via_at past_north wires_from extension_at across turn_of_via_at
  via_path at number other via rest is names ends no_north =
      let no_new : is_keyword (codes "NEW") via ≡ false = first_is_none (λ word. is_keyword word via) (codes "NEW") (drop 1 wiring_words) names.free in
      let no_others = others_are_none (λ word. is_keyword word via) (codes "NEW") (drop 1 wiring_words) names.free in
      let no_rect : is_keyword (codes "RECT") via ≡ false = first_is_none (λ word. is_keyword word via) (codes "RECT") (drop 2 wiring_words) no_others in
      rw (
        layer_again _,
        written_again scope narrow special (pos 0) _ zero_written,
        first_point_again at None _ is tt,
        narrow,
        no_new,
        no_mark_byte 43 refl via (name_is_word via names.named),
        no_mark 40 refl (omega arith) via names.named,
        no_rect,
        names.named,
        names.free,
        names.there,
        no_turn scope number rest names.upright,
        no_north,
        ends,
        names.leads,
      ) refl where
        zero_written : IsWritten special (pos 0)
        zero_written = by special where
          by : (special : Bool) → IsWritten special (pos 0)
          by false = tt
          by true = (zero_is, least, refl) where
            zero_is : IsNumber (pos 0)
            zero_is = omega arith

            least : pos 0 ≤ℤ pos 0
            least = omega (arith, ints)

-- a rectangle, in NETS
pub patch_path : (scope : NetScopeModel) → scope.profile ≡ Narrow → (layer : ℕ) (name : List ℕ) (at : PointModel) (rect : RectModel) (rest : Words)
    → IsPathLayer scope.library layer name → IsPosition at → IsArea rect → at_path_end rest ≡ true
    → path_at scope false (name ∷ (spot_words at ++
    (codes "RECT" ∷ codes "(" ∷ signed_decimal rect.x1 ∷ signed_decimal rect.y1 ∷ signed_decimal rect.x2 ∷ signed_decimal rect.y2 ∷ codes ")" ∷ rest)))
    ≡ Some (Patch layer at rect ∷ [], rest)
unfolding path_at keyword_at next_at steps one_item item_at item_without_mask past_mask rect_item mark_at wires_from extension_at
patch_path scope narrow layer name at rect rest is_layer is is_rect ends =
    rw (
      layer_again scope narrow false layer name is_layer _,
      written_again scope narrow false (pos 0) _ tt,
      first_point_again at None _ is tt,
      narrow,
      number_again rect.x1 _ is_rect.x1,
      number_again rect.y1 _ is_rect.y1,
      number_again rect.x2 _ is_rect.x2,
      number_again rect.y2 _ is_rect.y2,
      between_again rect is_rect.proper,
      ends,
    ) refl

-- an extension that is printed where it isn't the one that holds where none is given
module _ (library : LibraryModel) (special : Bool) (layer : ℕ) (extension : ℤ) where
  pub given_is : IsExtension library special layer extension → IsGiven (given_extension library special layer extension)
  given_is is = by (int_eq extension (default_extension library (written special) layer)) refl is where
    self : (z : ℤ) → int_eq z z ≡ true
    self z = grind (arith, ints)

    by : (same : Bool) → int_eq extension (default_extension library (written special) layer) ≡ same → IsExtension library special layer extension
        → IsGiven (given_extension library special layer extension)
    by true test is = rw test tt
    by false test (inl given) = rw test given
    by false test (inr same) = absurd (false≢true (sym test ∙ ap (λ z. int_eq extension z) (sym same) ∙ self extension))

  pub extension_again : (width : ℤ) → unwrap_or (given_extension library special layer extension)
      (default_extension library (written_as special width) layer) ≡ extension
  extension_again width = by (int_eq extension (default_extension library (written special) layer)) refl where
    by : (same : Bool) → int_eq extension (default_extension library (written special) layer) ≡ same
        → unwrap_or (given_extension library special layer extension) (default_extension library (written_as special width) layer) ≡ extension
    by true test = rw test (same_default library special layer width ∙ sym (eq_from_test extension (default_extension library (written special) layer) test))
    by false test = rw test refl
