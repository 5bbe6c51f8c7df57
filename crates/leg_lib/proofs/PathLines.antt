-- The rectangles of the lines of a path.
use Rattle.std.proofs.Common.{◌≡◌, ℤ, pos, ◌+ℤ◌, ◌-ℤ◌, ◌<ℤ◌, Some, arith}
use Rattle.std.proofs.lemmas.Int.{ints, int_min_is, int_max_is}
use Rattle.std.specs.Int.{int_min, int_max}
use Rattle.leg_grammar.specs.Lef.Copies.{length_within}
use Rattle.leg_lib.proofs.CopiedShapes.{within_is}

-- What reaches beyond two ends on both sides is not empty.
pub around_less : (a b half low high : ℤ) → pos 0 <ℤ half → length_within (int_min a b -ℤ half) ≡ Some low → length_within (int_max a b +ℤ half) ≡ Some high
    → low <ℤ high
around_less a b half low high above first second =
    let one : low ≡ (int_min a b -ℤ half) = within_is (int_min a b -ℤ half) low first in
    let other : high ≡ (int_max a b +ℤ half) = within_is (int_max a b +ℤ half) high second in
    omega (arith, ints, int_min_is a b, int_max_is a b, one, other, above)
