-- A grid above 0 forbids sides off it.
use Rattle.std.proofs.Common.{◌≡◌, ◌↔◌, pos, ◌<ℤ◌, IsTrue, FitsSigned, w64, sym, ap, ◌∙◌, arith, rules}
use Rattle.std.proofs.lemmas.Int.{ints, to_z-of_z}
use Rattle.leg_lib_records.specs.Records.{LibraryModel}
use Rattle.leg_drc.specs.Steps.ShapeParts.{HasSideOff}
use Rattle.leg_drc.proofs.OffGridShapes.{off_grid_told}
use Rattle.leg_drc.proofs.one_shape.is_off_grid.Goals as goal

pub returns-then-is_of_wire : goal.returns-then-is_of_wire
returns-then-is_of_wire g c =
    let design = c.args.design.now in
    let grid = c.in-Some.grid in
    let units : c.units.result ≡ design.library.units = c.units.ensures ∙ ap (λ (l : LibraryModel). l.units) c.library.ensures.is in
    let fits : FitsSigned w64 c.millionths.result = search rules in
    let fits_then : FitsSigned w64 c.millionths-then-is_of_wire.result = search rules in
    let above : pos 0 <ℤ grid = rw (← c.millionths.ensures.is) (grind (arith, ints, c.if-millionths-gt0.true)) in
    let off : IsTrue c.has_side_off.result ↔ HasSideOff design.library.units grid c.args.shape.now.rect =
    rw (← units, ← c.millionths-then-is_of_wire.ensures.is) (simp to_z-of_z at c.has_side_off.ensures) in
    off_grid_told design c.args.deck.now c.args.flat.now c.args.shape.now grid (sym c.grid.ensures ∙ c.in-Some.is) above
    (c.is_of_wire.ensures.0 c.if-is_of_wire.true) c.has_side_off.result off
