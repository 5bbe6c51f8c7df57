-- A width is that of a number of sites just where nothing remains.
use Rattle.std.proofs.Common.{◌≡◌, ◌%◌, ◌-ℤ◌, ◌+ℤ◌, unsigned_abs, arith}
use Rattle.std.proofs.lemmas.Bool.{eqb-true, eq-eqb}
use Rattle.std.proofs.lemmas.Int.{ints}
use Rattle.leg_place.proofs.OnSites.{IsWide}
use Rattle.leg_place.proofs.RowSites.{whole_test}
use Rattle.leg_place.proofs.sites.is_whole.Goals as goal

pub returns-then-y2-y1-clause-whole : goal.returns-then-y2-y1-clause-whole
returns-then-y2-y1-clause-whole c =
    let size = c.args.size.now in
    let box = c.args.rect.now in
    let d = c.abs_diff.result in
    let n = c.unsigned_abs-width.result in
    let apart : d ≡ unsigned_abs (box.x2 -ℤ box.x1) = omega (arith, ints, c.abs_diff.ensures, c.x2.ensures.is, c.x1.ensures.is) in
    let width : n ≡ unsigned_abs size.width = omega (arith, ints, c.unsigned_abs-width.ensures.value, c.width.ensures.is) in
    let high : box.y2 ≡ box.y1 +ℤ size.height = omega (arith, ints, c.if-y2-y1.true, c.y2.ensures.is, c.y1.ensures.is, c.height.ensures.is) in
    let proper : IsWide box = record { wide = c.y2.ensures.proper.wide; high = c.y2.ensures.proper.high } in
    let test = whole_test size box d n c.width.ensures.proper.area proper apart width high in
    (λ t. test.0 (eqb-true (d % n) 0 t), λ whole. eq-eqb (d % n) 0 (test.1 whole))
