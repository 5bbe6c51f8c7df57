-- The wires that rectangles, polygons and vias of special nets say are such as a DEF can spell.
use Rattle.std.proofs.Common.{◌≡◌, ℕ, ℤ, pos, ◌+ℤ◌, ◌-ℤ◌, ◌<ℤ◌, ◌≤ℤ◌, Bool, true, false, ◌||◌, int_lt, List, [], ◌∷◌, Some, codes, inl, refl, ap, arith}
use Rattle.std.specs.Ordering.{int_eq}
use Rattle.std.proofs.lemmas.Int.{ints}
use Rattle.std.proofs.lemmas.List.Elements.{All-nil, All-cons, All-push, All-append}
use Rattle.leg_lex.specs.Words.{Words, is_at, keyword_at}
use Rattle.leg_lex.specs.Number.{IsNumber}
use Rattle.leg_lex.proofs.GivesAll.{until_gives}
use Rattle.leg_geom.specs.Plane.{PointModel, RectModel, halfway}
use Rattle.leg_lib_records.specs.Records.{ViaModel}
use Rattle.leg_design_records.specs.declared.records.Wire.{Wire}
use Rattle.leg_design_records.specs.declared.records.Wire.TheVariants.{ViaAt}
use Rattle.leg_design_records.specs.Layers.{is_routing}
use Rattle.leg_design_records.specs.Wires.{is_even}
use Rattle.leg_design_records.specs.WellFormedParts.{IsArea}
use Rattle.leg_design_records.specs.WellFormedNets.{IsWire}
use Rattle.leg_grammar.specs.declared.profile.Profile.{Profile}
use Rattle.leg_grammar.specs.declared.profile.Profile.TheVariants.{Narrow, Wide}
use Rattle.leg_grammar.specs.Def.Guard.{is_within}
use Rattle.leg_grammar.specs.Def.NetScope.{NetScopeModel, via_numbered}
use Rattle.leg_grammar.specs.Def.PathItem.{via_at}
use Rattle.leg_grammar.specs.Mask.{at_mask, mask_at}
use Rattle.leg_grammar.specs.Def.SpecialRect.{segment_along_x, segment_along_y, two_along_x, two_along_y, rect_wires, special_rect_at}
use Rattle.leg_grammar.specs.Def.SpecialPolygon.{with_slab, special_polygon_at}
use Rattle.leg_grammar.specs.Def.SpecialVia.{good_via_at, via_spot, at_no_spot, special_vias_at}
use Rattle.leg_grammar.specs.Def.SpecialShape.{special_shape_at, shape_at}
use Rattle.leg_design_common.proofs.Gives.{Gives, gives_none, gives_some, gives_bind, gives_skip, gives_choice, gives_if, gives_itself, when_gives, each_gives}
use Rattle.leg_design_common.proofs.ReadPlacement.{spot_gives, rect_gives}
use Rattle.leg_design_common.proofs.ReadPolygons.{polygon_gives}
use Rattle.leg_design_wires.proofs.ReadPaths.{AreWires}
use Rattle.leg_design_common.proofs.Areas.{within_is}
use Rattle.leg_design_wires.proofs.ReadWiring.{routing_gives}

-- the middle of two numbers is one
middle_is : (a b : ℤ) → IsNumber a → IsNumber b → IsNumber (halfway a b)
middle_is a b first second = grind (arith, ints)

zero_is : IsNumber (pos 0)
zero_is = omega arith

zero_least : pos 0 ≤ℤ pos 0
zero_least = omega (arith, ints)

same_is : (z : ℤ) → int_eq z z ≡ true
same_is z = grind (arith, ints)

either_is : (test : Bool) → (test || true) ≡ true
either_is true = refl
either_is false = refl

apart : (a b : ℤ) → a <ℤ b → a ≡ b → ⊥
apart a b less same = omega (arith, ints)

difference_above : (a b : ℤ) → a <ℤ b → pos 0 <ℤ (b -ℤ a)
difference_above a b less = omega (arith, ints)

-- of an odd number, one less is even
odd_less : (a b : ℤ) → is_even (b -ℤ a) ≡ false → is_even (b -ℤ pos 1 -ℤ a) ≡ true
odd_less a b odd = grind (arith, ints)

odd_more : (a b : ℤ) → is_even (b -ℤ a) ≡ false → is_even (b -ℤ (a +ℤ pos 1)) ≡ true
odd_more a b odd = grind (arith, ints)

-- a number between two others
between : (a b z : ℤ) → IsNumber a → IsNumber b → a ≤ℤ z → z ≤ℤ b → IsNumber z
between a b z first last low high = omega (arith, ints)

-- two numbers more than one apart: without its last unit, or its first, there is something between them
record HasMore (a b : ℤ) : Type 0 where
  less : a <ℤ (b -ℤ pos 1)
  more : (a +ℤ pos 1) <ℤ b
  low : a ≤ℤ (a +ℤ pos 1)
  high : (b -ℤ pos 1) ≤ℤ b
  least : a ≤ℤ (b -ℤ pos 1)
  most : (a +ℤ pos 1) ≤ℤ b

has_more : (a b : ℤ) → int_lt (pos 1) (b -ℤ a) ≡ true → HasMore a b
has_more a b more = record {
  less = grind (arith, ints);
  more = grind (arith, ints);
  low = omega (arith, ints);
  high = omega (arith, ints);
  least = grind (arith, ints);
  most = grind (arith, ints);
}

-- a rectangle without its highest row of unit squares, and so on
without_top : (rect : RectModel) → IsArea rect → HasMore rect.y1 rect.y2 → IsArea (record rect { y2 = rect.y2 -ℤ pos 1 })
without_top rect area has = record {
  x1 = area.x1;
  y1 = area.y1;
  x2 = area.x2;
  y2 = between rect.y1 rect.y2 (rect.y2 -ℤ pos 1) area.y1 area.y2 has.least has.high;
  proper = record { wide = area.proper.wide; high = has.less };
}

without_bottom : (rect : RectModel) → IsArea rect → HasMore rect.y1 rect.y2 → IsArea (record rect { y1 = rect.y1 +ℤ pos 1 })
without_bottom rect area has = record {
  x1 = area.x1;
  y1 = between rect.y1 rect.y2 (rect.y1 +ℤ pos 1) area.y1 area.y2 has.low has.most;
  x2 = area.x2;
  y2 = area.y2;
  proper = record { wide = area.proper.wide; high = has.more };
}

without_last : (rect : RectModel) → IsArea rect → HasMore rect.x1 rect.x2 → IsArea (record rect { x2 = rect.x2 -ℤ pos 1 })
without_last rect area has = record {
  x1 = area.x1;
  y1 = area.y1;
  x2 = between rect.x1 rect.x2 (rect.x2 -ℤ pos 1) area.x1 area.x2 has.least has.high;
  y2 = area.y2;
  proper = record { wide = has.less; high = area.proper.high };
}

without_first : (rect : RectModel) → IsArea rect → HasMore rect.x1 rect.x2 → IsArea (record rect { x1 = rect.x1 +ℤ pos 1 })
without_first rect area has = record {
  x1 = between rect.x1 rect.x2 (rect.x1 +ℤ pos 1) area.x1 area.x2 has.low has.most;
  y1 = area.y1;
  x2 = area.x2;
  y2 = area.y2;
  proper = record { wide = has.more; high = area.proper.high };
}

module _ (scope : NetScopeModel) where
  abbrev Special : List Wire → Type 0
  Special wires = AreWires scope true wires

  module _ (layer : ℕ) (routes : is_routing scope.library layer ≡ true) where
    along_x_gives : (rect : RectModel) → IsArea rect → is_even (rect.y2 -ℤ rect.y1) ≡ true
        → Gives (IsWire scope.library scope.vias true) (segment_along_x layer rect)
    unfolding segment_along_x
    along_x_gives rect area even =
        let middle = middle_is rect.y1 rect.y2 area.y1 area.y2 in
        gives_bind (when_gives (is_within (rect.y2 -ℤ rect.y1))) (λ within fits.
        gives_some _ (record {
          routes = routes;
          from_ = record { x = area.x1; y = middle };
          to_ = record { x = area.x2; y = middle };
          straight = rw (same_is (halfway rect.y1 rect.y2)) (either_is (int_eq rect.x1 rect.x2));
          long = λ same. apart rect.x1 rect.x2 area.proper.wide (ap (λ (p : PointModel). p.x) same);
          width_ = (within_is (rect.y2 -ℤ rect.y1) fits, difference_above rect.y1 rect.y2 area.proper.high, even);
          from_extension = inl (zero_is, zero_least);
          to_extension = inl (zero_is, zero_least);
        }))

    along_y_gives : (rect : RectModel) → IsArea rect → is_even (rect.x2 -ℤ rect.x1) ≡ true
        → Gives (IsWire scope.library scope.vias true) (segment_along_y layer rect)
    unfolding segment_along_y
    along_y_gives rect area even =
        let middle = middle_is rect.x1 rect.x2 area.x1 area.x2 in
        gives_bind (when_gives (is_within (rect.x2 -ℤ rect.x1))) (λ within fits.
        gives_some _ (record {
          routes = routes;
          from_ = record { x = middle; y = area.y1 };
          to_ = record { x = middle; y = area.y2 };
          straight = rw (same_is (halfway rect.x1 rect.x2)) refl;
          long = λ same. apart rect.y1 rect.y2 area.proper.high (ap (λ (p : PointModel). p.y) same);
          width_ = (within_is (rect.x2 -ℤ rect.x1) fits, difference_above rect.x1 rect.x2 area.proper.wide, even);
          from_extension = inl (zero_is, zero_least);
          to_extension = inl (zero_is, zero_least);
        }))

    one_wire : (wire : Wire) → IsWire scope.library scope.vias true wire → Special (wire ∷ [])
    one_wire wire is = All-cons (IsWire scope.library scope.vias true) wire [] is (All-nil (IsWire scope.library scope.vias true))

    two_along_x_give : (rect : RectModel) → IsArea rect → is_even (rect.y2 -ℤ rect.y1) ≡ false → HasMore rect.y1 rect.y2
        → Gives Special (two_along_x layer rect)
    unfolding two_along_x
    two_along_x_give rect area odd has =
        gives_bind (along_x_gives (record rect { y2 = rect.y2 -ℤ pos 1 }) (without_top rect area has) (odd_less rect.y1 rect.y2 odd)) (λ low is_low.
        gives_bind (along_x_gives (record rect { y1 = rect.y1 +ℤ pos 1 }) (without_bottom rect area has) (odd_more rect.y1 rect.y2 odd)) (λ high is_high.
        gives_some _ (All-cons (IsWire scope.library scope.vias true) low (high ∷ []) is_low (one_wire high is_high))))

    two_along_y_give : (rect : RectModel) → IsArea rect → is_even (rect.x2 -ℤ rect.x1) ≡ false → HasMore rect.x1 rect.x2
        → Gives Special (two_along_y layer rect)
    unfolding two_along_y
    two_along_y_give rect area odd has =
        gives_bind (along_y_gives (record rect { x2 = rect.x2 -ℤ pos 1 }) (without_last rect area has) (odd_less rect.x1 rect.x2 odd)) (λ left is_left.
        gives_bind (along_y_gives (record rect { x1 = rect.x1 +ℤ pos 1 }) (without_first rect area has) (odd_more rect.x1 rect.x2 odd)) (λ right is_right.
        gives_some _ (All-cons (IsWire scope.library scope.vias true) left (right ∷ []) is_left (one_wire right is_right))))

    rect_wires_give : (rect : RectModel) → IsArea rect → Gives Special (rect_wires layer rect)
    unfolding rect_wires
    rect_wires_give rect area =
        gives_choice (is_even (rect.y2 -ℤ rect.y1))
        (λ even. gives_bind (along_x_gives rect area even) (λ wire is. gives_some _ (one_wire wire is)))
        (λ odd_height. gives_choice (is_even (rect.x2 -ℤ rect.x1))
        (λ even. gives_bind (along_y_gives rect area even) (λ wire is. gives_some _ (one_wire wire is)))
        (λ odd_width. gives_choice (int_lt (pos 1) (rect.y2 -ℤ rect.y1))
        (λ high. two_along_x_give rect area odd_height (has_more rect.y1 rect.y2 high))
        (λ low. gives_choice (int_lt (pos 1) (rect.x2 -ℤ rect.x1))
        (λ wide. two_along_y_give rect area odd_width (has_more rect.x1 rect.x2 wide))
        (λ narrow. gives_none))))

  special_rect_gives : (clause : Words) → Gives (λ said. Special said.0) (special_rect_at scope clause)
  unfolding special_rect_at
  special_rect_gives clause =
      gives_skip (keyword_at (codes "RECT") clause) (λ start.
      gives_bind (routing_gives scope true start.1) (λ layer routes.
      gives_bind (rect_gives layer.1) (λ rect area.
      gives_bind (rect_wires_give layer.0 routes rect.0 area) (λ wires are.
      gives_some _ are))))

  with_slab_gives : (layer : ℕ) → is_routing scope.library layer ≡ true → (wires : List Wire) (slab : RectModel) → Special wires → IsArea slab
      → Gives Special (with_slab layer wires slab)
  unfolding with_slab
  with_slab_gives layer routes wires slab are area =
      gives_bind (rect_wires_give layer routes slab area) (λ more is.
      gives_some _ (All-append (IsWire scope.library scope.vias true) wires more are is))

  special_polygon_gives : (clause : Words) → Gives (λ said. Special said.0) (special_polygon_at scope clause)
  unfolding special_polygon_at
  special_polygon_gives clause =
      gives_skip (keyword_at (codes "POLYGON") clause) (λ start.
      gives_bind (routing_gives scope true start.1) (λ layer routes.
      gives_bind (polygon_gives layer.1) (λ slabs areas.
      gives_bind (each_gives Special IsArea (with_slab layer.0) (with_slab_gives layer.0 routes) [] slabs.0
      (All-nil (IsWire scope.library scope.vias true)) areas.0) (λ wires are.
      gives_some _ are))))

  -- a good via of this number
  record IsGoodVia (number : ℕ) : Type 0 where
    via : ViaModel
    there : via_numbered scope number ≡ Some via
    good : via.good ≡ true

  good_via_gives : (words : Words) → Gives (λ said. IsGoodVia said.0) (good_via_at scope words)
  unfolding good_via_at
  good_via_gives words =
      gives_skip (via_at scope words) (λ number.
      gives_bind (gives_itself (via_numbered scope number.0)) (λ via there.
      gives_bind (when_gives via.good) (λ is good.
      gives_some _ (record { via = via; there = there; good = good }))))

  via_spot_gives : (number : ℕ) → IsGoodVia number → (wires : List Wire) (words : Words) → Special wires
      → Gives (λ said. Special said.0) (via_spot number wires words)
  unfolding via_spot
  via_spot_gives number is wires words are =
      gives_bind (spot_gives words) (λ spot position.
      gives_some _ (All-push (IsWire scope.library scope.vias true) wires (ViaAt number spot.0) are (position, (is.via, is.there, is.good))))

  special_vias_give : (clause : Words) → Gives (λ said. Special said.0) (special_vias_at scope clause)
  unfolding special_vias_at
  special_vias_give clause =
      gives_skip (keyword_at (codes "VIA") clause) (λ start.
      gives_bind (good_via_gives start.1) (λ via is.
      gives_bind (via_spot_gives via.0 is [] via.1 (All-nil (IsWire scope.library scope.vias true))) (λ first are.
      until_gives Special at_no_spot (via_spot via.0) (via_spot_gives via.0 is) first.0 first.1 are)))

  special_shape_gives : (clause : Words) → Gives (λ said. Special said.0) (special_shape_at scope clause)
  unfolding special_shape_at
  special_shape_gives clause =
      gives_if (is_at (codes "RECT") clause) (special_rect_gives clause)
      (gives_if (is_at (codes "POLYGON") clause) (special_polygon_gives clause)
      (gives_if (is_at (codes "VIA") clause) (special_vias_give clause)
      (gives_if (at_mask scope.profile clause)
      (gives_skip (mask_at clause) (λ mask. gives_some _ (All-nil (IsWire scope.library scope.vias true))))
      gives_none)))

  pub shape_gives : (profile : Profile) (special : Bool) (clause : Words)
      → Gives (λ said. AreWires scope special said.0) (shape_at profile scope special clause)
  unfolding shape_at
  shape_gives Narrow special clause = gives_none
  shape_gives (Wide masks soft) true clause = special_shape_gives clause
  shape_gives (Wide masks soft) false clause = gives_none
