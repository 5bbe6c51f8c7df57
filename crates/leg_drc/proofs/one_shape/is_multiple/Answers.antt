-- A number is a multiple by its absolute value.
use Rattle.std.proofs.Common.{◌≡◌, ◌*◌, unsigned_abs, FitsSigned, w64, refl, ap, ◌∙◌, rules}
use Rattle.std.proofs.lemmas.Int.{to_z-of_z}
use Rattle.leg_drc.proofs.GridMultiples.{multiple_told}
use Rattle.leg_drc.proofs.one_shape.is_multiple.Goals as goal

pub returns : goal.returns
returns c =
    let z = c.args.z in
    let grid = c.args.grid in
    let units = c.args.units in
    let fits_z : FitsSigned w64 z = search rules in
    let fits_grid : FitsSigned w64 grid = search rules in
    let a : c.from-scaled.result ≡ unsigned_abs z = c.from-scaled.ensures ∙ simp to_z-of_z at c.unsigned_abs.ensures.value in
    let g : c.from.result ≡ unsigned_abs grid = c.from.ensures ∙ simp to_z-of_z at c.unsigned_abs-2.ensures.value in
    let u : c.from-2.result ≡ units = c.from-2.ensures in
    multiple_told units grid z (c.from-scaled.result * 1000000) (c.from.result * c.from-2.result) (ap (λ n. n * 1000000) a) (rw (g, u) refl) c.requires.grid
