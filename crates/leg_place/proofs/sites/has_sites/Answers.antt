-- The orientations of rows that this one fits are it and, with Y symmetry, it mirrored.
use Rattle.std.proofs.Common.{inl, inr, sym, ◌∙◌}
use Rattle.std.proofs.lemmas.Bool.{false≢true}
use Rattle.leg_place.proofs.Mirrors.{fits_mirrored, fitting_is}
use Rattle.leg_place.proofs.sites.has_sites.Goals as goal

pub returns-then-y_symmetric : goal.returns-then-y_symmetric
returns-then-y_symmetric c =
    let orient = c.args.orient in
    let mirrored = c.mirror_y.result in
    let symmetric = c.args.y_symmetric in
    let test = c.is_covered-then-y_symmetric.ensures in (
      λ t. record {
        row_orient = mirrored;
        fits = fits_mirrored orient mirrored symmetric c.mirror_y.ensures c.if-y_symmetric.true;
        covered = rw c.new-then-y_symmetric.ensures at (test.0 t);
      },
      λ sites. elim (fitting_is orient mirrored symmetric c.mirror_y.ensures sites.row_orient sites.fits) [
        | inl same ↦ absurd (false≢true (sym c.if-is_covered.false ∙ c.is_covered.ensures.1 (rw c.new.ensures (rw same at sites.covered))))
        | inr mirror ↦ test.1 (rw c.new-then-y_symmetric.ensures (rw mirror.1 at sites.covered))
      ],
    )
