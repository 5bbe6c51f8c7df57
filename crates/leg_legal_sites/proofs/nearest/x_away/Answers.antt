-- The site's left edge is within the limit, so the product is.
use Rattle.std.proofs.Common.{◌≡◌, ◌*◌, pos, ◌*ℤ◌, ap, ◌∙◌, arith}
use Rattle.std.proofs.Math.IntN.{pos-*ℤ-pos}
use Rattle.std.proofs.lemmas.Int.{ints}
use Rattle.leg_legal_sites.proofs.nearest.x_away.Goals as goal

pub returns-clause-is : goal.returns-clause-is
returns-clause-is c =
    let pitch = c.args.pitch.now in
    let width = c.unsigned_abs.result in
    let wide : pitch.width ≡ pos width = omega (arith, ints) in
    let product : pos c.args.site *ℤ pitch.width ≡ pos (c.args.site * width) = ap (λ z. pos c.args.site *ℤ z) wide ∙ pos-*ℤ-pos c.args.site width in
    omega (arith, ints, product)
