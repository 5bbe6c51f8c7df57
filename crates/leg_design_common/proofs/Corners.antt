-- The rectangle between two corners.
use Rattle.std.proofs.Common.{◌≡◌, Bool, true, false, cond, ℤ, ◌<ℤ◌, int_lt, Option, None, Some, refl, ap, ◌∙◌, arith}
use Rattle.std.specs.Prelude.{SomeIff}
use Rattle.std.proofs.lemmas.Int.{ints}
use Rattle.leg_lemmas.proofs.Integers.{lt_from_test}
use Rattle.leg_geom.specs.Plane.{PointModel, RectModel, IsSpot, IsRect, IsCoordinate}
use Rattle.leg_lib_records.specs.Measure.{sides_between, rect_between}

one_of : (choice : Bool) (x y : ℤ) → IsCoordinate x → IsCoordinate y → IsCoordinate (cond choice x y)
one_of true x y a b = a
one_of false x y a b = b

not_lt_is : (a b : ℤ) → int_lt a b ≡ false → a <ℤ b → ⊥
not_lt_is a b not less = grind (arith, ints)

-- the rectangle of these sides, which are those between the corners, is one
rect_is : (p q : PointModel) → IsSpot p → IsSpot q → int_lt (sides_between p q).x1 (sides_between p q).x2 ≡ true
    → int_lt (sides_between p q).y1 (sides_between p q).y2 ≡ true → IsRect (sides_between p q)
rect_is p q at_p at_q wide high = record {
  x1 = one_of (int_lt q.x p.x) q.x p.x at_q.x at_p.x;
  y1 = one_of (int_lt q.y p.y) q.y p.y at_q.y at_p.y;
  x2 = one_of (int_lt q.x p.x) p.x q.x at_p.x at_q.x;
  y2 = one_of (int_lt q.y p.y) p.y q.y at_p.y at_q.y;
  wide = lt_from_test (sides_between p q).x1 (sides_between p q).x2 wide;
  high = lt_from_test (sides_between p q).y1 (sides_between p q).y2 high;
}

-- A rectangle is made just where the corners lie apart in both directions.
pub rect_made : (p q : PointModel) (sides : RectModel) (made : Option RectModel) → IsSpot p → IsSpot q → sides ≡ sides_between p q
    → SomeIff made (IsRect sides) sides → made ≡ rect_between p q
unfolding rect_between
rect_made p q sides made at_p at_q same says = by (int_lt found.x1 found.x2) refl (int_lt found.y1 found.y2) refl made refl (rw same at says) where
  found : RectModel
  found = sides_between p q

  by : (wide : Bool) → int_lt found.x1 found.x2 ≡ wide → (high : Bool) → int_lt found.y1 found.y2 ≡ high → (rect : Option RectModel) → made ≡ rect
      → SomeIff rect (IsRect found) found → made ≡ rect_between p q
  by true wide true high None is says = absurd (says (rect_is p q at_p at_q wide high))
  by true wide true high (Some rect) is says = is ∙ ap Some says.1 ∙ rw (wide, high) refl
  by true wide false flat None is says = is ∙ rw (wide, flat) refl
  by true wide false flat (Some rect) is says = absurd (not_lt_is found.y1 found.y2 flat says.0.high)
  by false flat high low None is says = is ∙ rw flat refl
  by false flat high low (Some rect) is says = absurd (not_lt_is found.x1 found.x2 flat says.0.wide)
