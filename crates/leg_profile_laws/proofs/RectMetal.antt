-- The wires of a rectangle of a special net: their metal together is the rectangle.
use Rattle.std.proofs.Common.{◌≡◌, ◌↔◌, ℕ, ℤ, pos, ◌+ℤ◌, ◌-ℤ◌, ◌≤ℤ◌, ◌<ℤ◌, ◌⊎◌, inl, inr, ⊎_elim, int_lt, int_le, Bool, true, false, List, [], ◌∷◌, refl, arith}
use Rattle.std.proofs.lemmas.Int.{ints}
use Rattle.leg_lex.proofs.Gives.{Gives, gives_none, gives_some, gives_bind, gives_skip, gives_choice}
use Rattle.leg_geom.specs.Plane.{PointModel, RectModel, HasPoint, halfway, centre}
use Rattle.leg_lib_records.specs.Measure.{IsProper}
use Rattle.leg_design_records.specs.declared.records.Wire.{Wire}
use Rattle.leg_design_records.specs.Wires.{is_even}
use Rattle.leg_rules.specs.Metal.Outline.{beyond, IsAlong, IsAcross, HasPointOf}
use Rattle.leg_rules.specs.Metal.Outline.Outline.{Line}
use Rattle.leg_profile_laws.specs.SegmentMetal.{IsOfSegment, IsOfSome}
use Rattle.leg_grammar.specs.Def.Guard.{when, is_within}
use Rattle.leg_grammar.specs.Def.SpecialRect.{segment_along_x, segment_along_y, two_along_x, two_along_y, rect_wires}

-- between two numbers, and along a line from the one to the other without extensions
along : (a b z : ℤ) → a <ℤ b → a ≤ℤ z → z ≤ℤ b → IsAlong a b (pos 0) (pos 0) z
along a b z less low high = record { from = grind (arith, ints); to = grind (arith, ints) }

along_low : (a b z : ℤ) → a <ℤ b → beyond a b z ≤ℤ pos 0 → a ≤ℤ z
along_low a b z less from = grind (arith, ints)

along_high : (a b z : ℤ) → a <ℤ b → beyond b a z ≤ℤ pos 0 → z ≤ℤ b
along_high a b z less to = grind (arith, ints)

-- between two numbers that are an even number apart, and across their middle
doubled : (a b : ℤ) → is_even (b -ℤ a) ≡ true → (halfway a b +ℤ halfway a b) ≡ (a +ℤ b)
doubled a b even = grind (arith, ints)

across_at : (a b m z : ℤ) → (m +ℤ m) ≡ (a +ℤ b) → a ≤ℤ z → z ≤ℤ b → IsAcross m (b -ℤ a) z
across_at a b m z middle low high = omega (arith, ints)

across_low : (a b m z : ℤ) → (m +ℤ m) ≡ (a +ℤ b) → IsAcross m (b -ℤ a) z → a ≤ℤ z
across_low a b m z middle across = omega (arith, ints)

across_high : (a b m z : ℤ) → (m +ℤ m) ≡ (a +ℤ b) → IsAcross m (b -ℤ a) z → z ≤ℤ b
across_high a b m z middle across = omega (arith, ints)

apart : (a b : ℤ) → a <ℤ b → a ≡ b → ⊥
apart a b less same = omega (arith, ints)

module _ (rect : RectModel) (proper : IsProper rect) (p : PointModel) where
  -- the segment along x of a rectangle of even height
  of_x : is_even (rect.y2 -ℤ rect.y1) ≡ true → HasPoint rect p
      → HasPointOf (Line (record { x = rect.x1; y = (centre rect).y }) (record { x = rect.x2; y = (centre rect).y }) (rect.y2 -ℤ rect.y1) (pos 0) (pos 0)) p
  of_x even has = inl (record {
    level = refl;
    along = along rect.x1 rect.x2 p.x proper.wide has.left has.right;
    across = across_at rect.y1 rect.y2 (centre rect).y p.y (doubled rect.y1 rect.y2 even) has.bottom has.top;
  })

  in_x : is_even (rect.y2 -ℤ rect.y1) ≡ true
      → HasPointOf (Line (record { x = rect.x1; y = (centre rect).y }) (record { x = rect.x2; y = (centre rect).y }) (rect.y2 -ℤ rect.y1) (pos 0) (pos 0)) p
      → HasPoint rect p
  in_x even (inl is) = record {
    left = along_low rect.x1 rect.x2 p.x proper.wide is.along.from;
    right = along_high rect.x1 rect.x2 p.x proper.wide is.along.to;
    bottom = across_low rect.y1 rect.y2 (centre rect).y p.y (doubled rect.y1 rect.y2 even) is.across;
    top = across_high rect.y1 rect.y2 (centre rect).y p.y (doubled rect.y1 rect.y2 even) is.across;
  }
  in_x even (inr is) = absurd (apart rect.x1 rect.x2 proper.wide is.upright)

  -- the segment along y of one of even width
  of_y : is_even (rect.x2 -ℤ rect.x1) ≡ true → HasPoint rect p
      → HasPointOf (Line (record { x = (centre rect).x; y = rect.y1 }) (record { x = (centre rect).x; y = rect.y2 }) (rect.x2 -ℤ rect.x1) (pos 0) (pos 0)) p
  of_y even has = inr (record {
    upright = refl;
    along = along rect.y1 rect.y2 p.y proper.high has.bottom has.top;
    across = across_at rect.x1 rect.x2 (centre rect).x p.x (doubled rect.x1 rect.x2 even) has.left has.right;
  })

  in_y : is_even (rect.x2 -ℤ rect.x1) ≡ true
      → HasPointOf (Line (record { x = (centre rect).x; y = rect.y1 }) (record { x = (centre rect).x; y = rect.y2 }) (rect.x2 -ℤ rect.x1) (pos 0) (pos 0)) p
      → HasPoint rect p
  in_y even (inl is) = absurd (apart rect.y1 rect.y2 proper.high is.level)
  in_y even (inr is) = record {
    left = across_low rect.x1 rect.x2 (centre rect).x p.x (doubled rect.x1 rect.x2 even) is.across;
    right = across_high rect.x1 rect.x2 (centre rect).x p.x (doubled rect.x1 rect.x2 even) is.across;
    bottom = along_low rect.y1 rect.y2 p.y proper.high is.along.from;
    top = along_high rect.y1 rect.y2 p.y proper.high is.along.to;
  }

-- The metal of a wire is this rectangle, and that of wires together is.
abbrev pub IsMetalOf : RectModel → Wire → Type 0
IsMetalOf rect wire = (p : PointModel) → HasPoint rect p ↔ IsOfSegment wire p

abbrev pub AreMetalOf : RectModel → List Wire → Type 0
AreMetalOf rect wires = (p : PointModel) → HasPoint rect p ↔ IsOfSome wires p

one_wire : (rect : RectModel) (wire : Wire) → IsMetalOf rect wire → AreMetalOf rect (wire ∷ [])
one_wire rect wire is p = (λ has. inl ((is p).0 has), λ of. ⊎_elim (λ first. (is p).1 first) (λ none. absurd none) of)

-- each point of a rectangle is in one of two others
record IsUnion (rect first second : RectModel) (p : PointModel) : Type 0 where
  in_one : HasPoint rect p → HasPoint first p ⊎ HasPoint second p
  of_first : HasPoint first p → HasPoint rect p
  of_second : HasPoint second p → HasPoint rect p

two_wires : (rect first second : RectModel) (a b : Wire) → ((p : PointModel) → IsUnion rect first second p) → IsMetalOf first a → IsMetalOf second b
    → AreMetalOf rect (a ∷ b ∷ [])
two_wires rect first second a b union is_a is_b p = (there, back) where
  there : HasPoint rect p → IsOfSome (a ∷ b ∷ []) p
  there has = ⊎_elim (λ one. inl ((is_a p).0 one)) (λ two. inr (inl ((is_b p).0 two))) ((union p).in_one has)

  back : IsOfSome (a ∷ b ∷ []) p → HasPoint rect p
  back (inl of) = (union p).of_first ((is_a p).1 of)
  back (inr (inl of)) = (union p).of_second ((is_b p).1 of)
  back (inr (inr none)) = absurd none

either : (a b z : ℤ) → pos 1 <ℤ (b -ℤ a) → (z ≤ℤ (b -ℤ pos 1)) ⊎ ((a +ℤ pos 1) ≤ℤ z)
either a b z more = by (int_le z (b -ℤ pos 1)) refl where
  by : (test : Bool) → int_le z (b -ℤ pos 1) ≡ test → (z ≤ℤ (b -ℤ pos 1)) ⊎ ((a +ℤ pos 1) ≤ℤ z)
  by true is = inl (grind (arith, ints))
  by false is = inr (grind (arith, ints))

less_is_more : (a b z : ℤ) → z ≤ℤ (b -ℤ pos 1) → z ≤ℤ b
less_is_more a b z less = omega (arith, ints)

more_is_less : (a z : ℤ) → (a +ℤ pos 1) ≤ℤ z → a ≤ℤ z
more_is_less a z more = omega (arith, ints)

module _ (rect : RectModel) (p : PointModel) where
  rows_union : pos 1 <ℤ (rect.y2 -ℤ rect.y1) → IsUnion rect (record rect { y2 = rect.y2 -ℤ pos 1 }) (record rect { y1 = rect.y1 +ℤ pos 1 }) p
  rows_union more = record {
    in_one = λ has. ⊎_elim
        (λ low. inl (record { left = has.left; right = has.right; bottom = has.bottom; top = low }))
        (λ high. inr (record { left = has.left; right = has.right; bottom = high; top = has.top }))
        (either rect.y1 rect.y2 p.y more);
    of_first = λ has. record { left = has.left; right = has.right; bottom = has.bottom; top = less_is_more rect.y1 rect.y2 p.y has.top };
    of_second = λ has. record { left = has.left; right = has.right; bottom = more_is_less rect.y1 p.y has.bottom; top = has.top };
  }

  columns_union : pos 1 <ℤ (rect.x2 -ℤ rect.x1) → IsUnion rect (record rect { x2 = rect.x2 -ℤ pos 1 }) (record rect { x1 = rect.x1 +ℤ pos 1 }) p
  columns_union more = record {
    in_one = λ has. ⊎_elim
        (λ low. inl (record { left = has.left; right = low; bottom = has.bottom; top = has.top }))
        (λ high. inr (record { left = high; right = has.right; bottom = has.bottom; top = has.top }))
        (either rect.x1 rect.x2 p.x more);
    of_first = λ has. record { left = has.left; right = less_is_more rect.x1 rect.x2 p.x has.right; bottom = has.bottom; top = has.top };
    of_second = λ has. record { left = more_is_less rect.x1 p.x has.left; right = has.right; bottom = has.bottom; top = has.top };
  }

more_of : (a b : ℤ) → int_lt (pos 1) (b -ℤ a) ≡ true → pos 1 <ℤ (b -ℤ a)
more_of a b more = grind (arith, ints)

less_first : (a b : ℤ) → pos 1 <ℤ (b -ℤ a) → a <ℤ (b -ℤ pos 1)
less_first a b more = omega (arith, ints)

less_last : (a b : ℤ) → pos 1 <ℤ (b -ℤ a) → (a +ℤ pos 1) <ℤ b
less_last a b more = omega (arith, ints)

odd_less : (a b : ℤ) → is_even (b -ℤ a) ≡ false → is_even (b -ℤ pos 1 -ℤ a) ≡ true
odd_less a b odd = grind (arith, ints)

odd_more : (a b : ℤ) → is_even (b -ℤ a) ≡ false → is_even (b -ℤ (a +ℤ pos 1)) ≡ true
odd_more a b odd = grind (arith, ints)

module _ (layer : ℕ) where
  along_x_metal : (rect : RectModel) → IsProper rect → is_even (rect.y2 -ℤ rect.y1) ≡ true → Gives (IsMetalOf rect) (segment_along_x layer rect)
  unfolding segment_along_x
  along_x_metal rect proper even =
      gives_skip (when (is_within (rect.y2 -ℤ rect.y1))) (λ within.
      gives_some _ (λ p. (of_x rect proper p even, in_x rect proper p even)))

  along_y_metal : (rect : RectModel) → IsProper rect → is_even (rect.x2 -ℤ rect.x1) ≡ true → Gives (IsMetalOf rect) (segment_along_y layer rect)
  unfolding segment_along_y
  along_y_metal rect proper even =
      gives_skip (when (is_within (rect.x2 -ℤ rect.x1))) (λ within.
      gives_some _ (λ p. (of_y rect proper p even, in_y rect proper p even)))

  two_x_metal : (rect : RectModel) → IsProper rect → is_even (rect.y2 -ℤ rect.y1) ≡ false → pos 1 <ℤ (rect.y2 -ℤ rect.y1)
      → Gives (AreMetalOf rect) (two_along_x layer rect)
  unfolding two_along_x
  two_x_metal rect proper odd more =
      let low = record rect { y2 = rect.y2 -ℤ pos 1 } in
      let high = record rect { y1 = rect.y1 +ℤ pos 1 } in
      gives_bind (along_x_metal low (record { wide = proper.wide; high = less_first rect.y1 rect.y2 more }) (odd_less rect.y1 rect.y2 odd)) (λ a is_a.
      gives_bind (along_x_metal high (record { wide = proper.wide; high = less_last rect.y1 rect.y2 more }) (odd_more rect.y1 rect.y2 odd)) (λ b is_b.
      gives_some _ (two_wires rect low high a b (λ p. rows_union rect p more) is_a is_b)))

  two_y_metal : (rect : RectModel) → IsProper rect → is_even (rect.x2 -ℤ rect.x1) ≡ false → pos 1 <ℤ (rect.x2 -ℤ rect.x1)
      → Gives (AreMetalOf rect) (two_along_y layer rect)
  unfolding two_along_y
  two_y_metal rect proper odd more =
      let left = record rect { x2 = rect.x2 -ℤ pos 1 } in
      let right = record rect { x1 = rect.x1 +ℤ pos 1 } in
      gives_bind (along_y_metal left (record { wide = less_first rect.x1 rect.x2 more; high = proper.high }) (odd_less rect.x1 rect.x2 odd)) (λ a is_a.
      gives_bind (along_y_metal right (record { wide = less_last rect.x1 rect.x2 more; high = proper.high }) (odd_more rect.x1 rect.x2 odd)) (λ b is_b.
      gives_some _ (two_wires rect left right a b (λ p. columns_union rect p more) is_a is_b)))

  -- The metal of the wires of a rectangle together is the rectangle.
  pub rect_metal : (rect : RectModel) → IsProper rect → Gives (AreMetalOf rect) (rect_wires layer rect)
  unfolding rect_wires
  rect_metal rect proper =
      gives_choice (is_even (rect.y2 -ℤ rect.y1))
      (λ even. gives_bind (along_x_metal rect proper even) (λ wire is. gives_some _ (one_wire rect wire is)))
      (λ odd_height. gives_choice (is_even (rect.x2 -ℤ rect.x1))
      (λ even. gives_bind (along_y_metal rect proper even) (λ wire is. gives_some _ (one_wire rect wire is)))
      (λ odd_width. gives_choice (int_lt (pos 1) (rect.y2 -ℤ rect.y1))
      (λ high. two_x_metal rect proper odd_height (more_of rect.y1 rect.y2 high))
      (λ low. gives_choice (int_lt (pos 1) (rect.x2 -ℤ rect.x1))
      (λ wide. two_y_metal rect proper odd_width (more_of rect.x1 rect.x2 wide))
      (λ narrow. gives_none))))
