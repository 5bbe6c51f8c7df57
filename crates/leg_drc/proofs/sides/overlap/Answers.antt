-- A difference of two coordinates fits.
use Rattle.std.proofs.Common.{◌≡◌, to_z, of_z, w64, arith}
use Rattle.std.specs.Int.{int_min, int_max}
use Rattle.std.proofs.lemmas.Int.{ints, to_z-of_z, int_min_is, int_max_is}
use Rattle.leg_drc.proofs.sides.overlap.Goals as goal

pub overflow_sub-result : goal.overflow_sub-result
overflow_sub-result c =
    let high : to_z w64 (of_z w64 c.min.result) ≡ int_min c.args.a_high c.args.b_high = grind (arith, to_z-of_z) in
    let low : to_z w64 (of_z w64 c.max.result) ≡ int_max c.args.a_low c.args.b_low = grind (arith, to_z-of_z) in
    rw (high, low) (omega (arith, ints, int_min_is c.args.a_high c.args.b_high, int_max_is c.args.a_low c.args.b_low))

pub returns : goal.returns
returns c = grind (arith, to_z-of_z)
