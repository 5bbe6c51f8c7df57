use Rattle.std.proofs.Common.{◌≡◌, ℤ, pos, ◌+ℤ◌, FitsSigned, w64, to_z, of_z, ◌∙◌, arith}
use Rattle.std.proofs.lemmas.Int.{ints, to_z-of_z, fits_signed_from_abs}
use Rattle.std.specs.Int.{int_div_euclid}
use Rattle.leg_geom.specs.Plane.{IsCoordinate, IsHalfway, halfway}
use Rattle.leg_geom.proofs.span.Span.middle.Goals as goal
use Rattle.leg_geom.proofs.Coordinates.{sum_fits}

sum_is : (a b : ℤ) → IsCoordinate a → IsCoordinate b → to_z w64 (of_z w64 a) +ℤ to_z w64 (of_z w64 b) ≡ a +ℤ b
sum_is a b la lb =
    let fa : FitsSigned w64 a = fits_signed_from_abs w64 a (omega arith) in
    let fb : FitsSigned w64 b = fits_signed_from_abs w64 b (omega arith) in
    rw (to_z-of_z w64 a fa, to_z-of_z w64 b fb)

-- half of the machine's sum is the middle
half_is : (a b r : ℤ) → IsCoordinate a → IsCoordinate b → r ≡ int_div_euclid (to_z w64 (of_z w64 (to_z w64 (of_z w64 a) +ℤ to_z w64 (of_z w64 b)))) (pos 2)
    → r ≡ halfway a b
half_is a b r la lb e = rw (sum_is a b la lb, to_z-of_z w64 (a +ℤ b) (sum_fits a b la lb)) at e

IsHalfway-halfway : (a b : ℤ) → IsHalfway a b (halfway a b)
IsHalfway-halfway a b = record { below = grind (arith, ints); near = grind (arith, ints) }

within_ends : (a b h : ℤ) → IsCoordinate a → IsCoordinate b → IsHalfway a b h → IsCoordinate h
within_ends a b h la lb m = omega (arith, ints)

pub overflow_add-self-inside : goal.overflow_add-self-inside
overflow_add-self-inside c =
    rw (sum_is c.self.inside.low c.self.inside.high c.self.invariant.low c.self.invariant.high)
    (sum_fits c.self.inside.low c.self.inside.high c.self.invariant.low c.self.invariant.high)

pub div_euclid-requires-clause-no_overflow : goal.div_euclid-requires-clause-no_overflow
div_euclid-requires-clause-no_overflow c = λ e _. omega arith

pub returns-clause-is : goal.returns-clause-is
returns-clause-is c =
    rw (← c.self.view_is)
    (to_z-of_z w64 _ (record { sfits = c.div_euclid.type_inv })
    ∙ half_is c.self.inside.low c.self.inside.high c.div_euclid.result c.self.invariant.low c.self.invariant.high c.div_euclid.ensures)

pub returns-clause-halfway : goal.returns-clause-halfway
returns-clause-halfway c =
    rw (
      ← c.self.view_is,
      to_z-of_z w64 c.div_euclid.result (record { sfits = c.div_euclid.type_inv }),
      half_is c.self.inside.low c.self.inside.high c.div_euclid.result c.self.invariant.low c.self.invariant.high c.div_euclid.ensures,
    )
    (IsHalfway-halfway c.self.inside.low c.self.inside.high)

pub returns-clause-within : goal.returns-clause-within
returns-clause-within c =
    rw (
      to_z-of_z w64 c.div_euclid.result (record { sfits = c.div_euclid.type_inv }),
      half_is c.self.inside.low c.self.inside.high c.div_euclid.result c.self.invariant.low c.self.invariant.high c.div_euclid.ensures,
    )
    (within_ends c.self.inside.low c.self.inside.high _ c.self.invariant.low c.self.invariant.high (IsHalfway-halfway c.self.inside.low c.self.inside.high))
