-- The start lies so many sites and a rest to the right of the row's left edge.
use Rattle.std.proofs.Common.{◌≡◌, ◌+◌, ◌%◌, ◌<◌, ◌≤◌, pos, ◌+ℤ◌, ◌<ℤ◌, arith}
use Rattle.std.proofs.lemmas.Int.{ints}
use Rattle.leg_legal_sites.proofs.Valley.{parts, valley_below, valley_above, valley_same}
use Rattle.leg_legal_sites.proofs.nearest.lowest.Goals as goal

pub returns-then-offset-width : goal.returns-then-offset-width
returns-then-offset-width c =
    let pitch = c.args.pitch.now in
    let width = c.unsigned_abs-width.result in
    let offset = c.abs_diff-offset.result in
    let right : pitch.left <ℤ pitch.start = grind (arith, ints) in
    let wide : pitch.width ≡ pos width = omega (arith, ints) in
    let start : pitch.start ≡ pitch.left +ℤ pos offset = omega (arith, ints) in
    let some : 1 ≤ width = omega (arith, ints) in
    let above : width < offset % width + offset % width = omega arith in
    valley_same pitch width offset _ wide start (valley_above width offset _ (offset % width) some (parts offset width some) (omega arith) above)

pub returns-else-offset-width : goal.returns-else-offset-width
returns-else-offset-width c =
    let pitch = c.args.pitch.now in
    let width = c.unsigned_abs-width.result in
    let offset = c.abs_diff-offset.result in
    let right : pitch.left <ℤ pitch.start = grind (arith, ints) in
    let wide : pitch.width ≡ pos width = omega (arith, ints) in
    let start : pitch.start ≡ pitch.left +ℤ pos offset = omega (arith, ints) in
    let some : 1 ≤ width = omega (arith, ints) in
    let near : offset % width + offset % width ≤ width = omega arith in
    valley_same pitch width offset _ wide start (valley_below width offset _ (offset % width) some (parts offset width some) (omega arith) near)
