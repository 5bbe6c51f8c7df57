-- A macro fits sites as high as it just where nothing of its width is left over.
use Rattle.std.proofs.Common.{◌≡◌, ◌%◌, unsigned_abs, refl, arith}
use Rattle.std.proofs.lemmas.Int.{ints}
use Rattle.leg_legal.proofs.Misfits.{fits_test}
use Rattle.leg_legal.proofs.unsuited.fits_sites.Goals as goal

pub returns : goal.returns
returns c =
    let site = c.args.site.now in
    let size = c.args.size.now in
    let high : size.height ≡ site.height = omega (arith, ints, c.height.ensures.is, c.height-2.ensures.is) in
    let first : c.unsigned_abs.result ≡ unsigned_abs size.width = omega (arith, ints, c.unsigned_abs.ensures.value, c.width.ensures.is) in
    let second : c.unsigned_abs-2.result ≡ unsigned_abs site.width = omega (arith, ints, c.unsigned_abs-2.ensures.value, c.width-2.ensures.is) in
    fits_test site size c.width-2.ensures.proper.area c.width.ensures.proper.area (c.unsigned_abs.result % c.unsigned_abs-2.result) high
    (rw (first, second) refl)
