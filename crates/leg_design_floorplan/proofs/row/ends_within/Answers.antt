use Rattle.std.proofs.Common.{ℤ, ◌≡◌, ◌≤◌, ◌*◌, ◌+ℤ◌, ◌*ℤ◌, unsigned_abs, ap, nat_le, w64, SFits, arith}
use Rattle.std.proofs.lemmas.Nat.{mul-le}
use Rattle.std.proofs.lemmas.Int.{ints, to_z-of_z, unsigned_abs-mul, fits_signed_from_abs}
use Rattle.leg_lex.specs.declared.limits.TheConstants.{NUMBER_LIMIT}
use Rattle.leg_design_floorplan.proofs.row.ends_within.Goals as goal

sum_fits : (a b : ℤ) → unsigned_abs a ≤ NUMBER_LIMIT → unsigned_abs b ≤ NUMBER_LIMIT * NUMBER_LIMIT → SFits w64 (a +ℤ b)
sum_fits a b one other = fits_signed_from_abs w64 (a +ℤ b) (omega (arith, ints))

pub returns : goal.returns
returns c =
    let way = c.args.steps *ℤ c.args.step in
    let size : unsigned_abs way ≤ NUMBER_LIMIT * NUMBER_LIMIT =
    omega (arith, unsigned_abs-mul c.args.steps c.args.step, mul-le _ _ _ _ c.requires.steps c.requires.step) in
    let start = to_z-of_z w64 c.args.start c.ranges.start in
    let steps = to_z-of_z w64 c.args.steps c.ranges.steps in
    let step = to_z-of_z w64 c.args.step c.ranges.step in
    let product = to_z-of_z w64 way (fits_signed_from_abs w64 way (omega arith)) in
    let end = to_z-of_z w64 (c.args.start +ℤ way) (sum_fits c.args.start way c.requires.start size) in
    let is : c.unsigned_abs.result ≡ unsigned_abs (c.args.start +ℤ way) = rw (start, steps, step, product, end) at c.unsigned_abs.ensures.value in
    ap (λ n. nat_le n NUMBER_LIMIT) is
