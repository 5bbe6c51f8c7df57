-- Heights above the lowest coordinate, and how many bands they come to.
use Rattle.std.proofs.Common.{◌≡◌, ℕ, zero, suc, ◌+◌, ◌-◌, ◌*◌, ◌/◌, ◌<◌, ◌≤◌, min, max, ℤ, ◌<ℤ◌, ap, arith}
use Rattle.std.proofs.lemmas.Int.{ints}
use Rattle.std.proofs.lemmas.Nat.{le-div, div_below}
use Rattle.std.proofs.Math.Nat.{div-mul-le_self, mul-div-le, lt-mul-div-succ, mul-le-mul_left}
use Rattle.leg_geom.specs.declared.limits.TheConstants.{COORDINATE_LIMIT}
use Rattle.leg_geom.specs.Plane.{IsCoordinate}
use Rattle.leg_geom.specs.Gap.{gap_between}
use Rattle.leg_sweep.specs.Steps.Offsets.{offset_of}

pub quotient_rises : (height a b : ℕ) → 0 < height → a ≤ b → a / height ≤ b / height
quotient_rises height a b some up = le-div (a / height) b height some (omega (arith, div-mul-le_self a height))

-- heights rise with y
pub height_rises : (low high : ℤ) → IsCoordinate low → IsCoordinate high → low <ℤ high → offset_of low ≤ offset_of high
height_rises low high is_low is_high up = omega (arith, ints)

pub height_small : (y : ℤ) → IsCoordinate y → offset_of y ≤ 2 * COORDINATE_LIMIT
height_small y is = omega (arith, ints)

-- what begins within the gap above a top edge
height_near : (bottom top low high : ℤ) (reach : ℕ) → IsCoordinate top → IsCoordinate low → low <ℤ high → gap_between bottom top low high ≤ reach
    → offset_of low ≤ offset_of top + reach
height_near bottom top low high reach is_top is_low long near = grind (arith, ints)

-- the same where the reach is cut off at the greatest height
pub height_within : (bottom top low high : ℤ) (reach : ℕ) → IsCoordinate top → IsCoordinate low → low <ℤ high → gap_between bottom top low high ≤ reach
    → offset_of low ≤ offset_of top + min reach (2 * COORDINATE_LIMIT)
height_within bottom top low high reach is_top is_low long near =
    let far = height_near bottom top low high reach is_top is_low long near in
    let small = height_small low is_low in
    omega (arith, far, small)

-- bands as high as an item on average and the reach have room for as many items with the reach
pub room_for_all : (total count largest reach height : ℕ) → total ≤ count * largest → total / max count 1 + 1 + reach ≤ height
    → total + count * reach ≤ count * height
room_for_all total zero largest reach height small tall = omega arith
room_for_all total (suc count) largest reach height small tall =
    let some : max (suc count) 1 ≡ suc count = omega arith in
    let average : total / suc count + 1 + reach ≤ height = rw some at tall in
    omega (arith, lt-mul-div-succ total {b = suc count} (omega arith), mul-le-mul_left (suc count) average)

-- a height above the so-many-th part leaves no more than so many bands
pub parts_few : (spread parts height : ℕ) → 0 < parts → spread / parts + 1 ≤ height → spread / height < parts
parts_few spread parts height some tall =
    div_below spread height parts (omega arith) (omega (arith, lt-mul-div-succ spread some, mul-le-mul_left parts tall))

-- what an item takes of the bands in which it stands
pub bands_taken : (height low bottom top reach last : ℕ) → 0 < height → low ≤ bottom → bottom ≤ top → last ≤ (top + reach - low) / height
    → (bottom - low) / height ≤ last
    → height * (last + 1 - (bottom - low) / height) ≤ 2 * height + (top - bottom + reach)
bands_taken height low bottom top reach last some above up high order =
    let first : ℕ = (bottom - low) / height in
    let split : height * (last + 1) ≡ height * (first + (last + 1 - first)) = ap (λ n. height * n) (omega arith) in
    let ends : height * last ≤ height * ((top + reach - low) / height) = mul-le-mul_left height high in
    omega (arith, split, ends, mul-div-le (top + reach - low) height, lt-mul-div-succ (bottom - low) some)
