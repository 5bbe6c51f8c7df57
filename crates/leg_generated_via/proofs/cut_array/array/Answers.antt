use Rattle.std.proofs.Common.{Some, sym, ◌∙◌}
use Rattle.leg_generated_via.proofs.ArraySides.{side_kept, array_made}
use Rattle.leg_generated_via.proofs.cut_array.array.Goals as goal

pub returns-in-Some : goal.returns-in-Some
returns-in-Some c =
    let width = side_kept c.array_width-width.result c.array_width-width.ensures.small in
    let height = side_kept c.array_height-height.result c.array_height-height.ensures.small in
    let wide = rw (width, c.array_width-width.ensures.is) at (sym c.is_even.ensures ∙ c.if-not-is_even.false) in
    let high = rw (height, c.array_height-height.ensures.is) at (sym c.is_even-else-not-is_even.ensures ∙ c.if-not-is_even-2.false) in
    let area = rw (width, height, c.array_width-width.ensures.is, c.array_height-height.ensures.is) at c.array_area.ensures in
    array_made c.args.cuts.now (Some c.in-Some.array) wide high (sym c.in-Some.is ∙ area)
