-- An orientation that isn't the row's fits it if it is the one that is mirrored.
use Rattle.std.proofs.Common.{◌≡◌, true, inl, inr, sym, subst, rules}
use Rattle.leg_geom.specs.declared.orient.Orient.{Orient}
use Rattle.leg_geom.specs.Orientation.{IsMirrored}
use Rattle.leg_place.proofs.Mirrors.{mirrored_once}
use Rattle.leg_legal_sites.proofs.candidate.fits.Goals as goal

pub returns-then-y_symmetric : goal.returns-then-y_symmetric
returns-then-y_symmetric c =
    let row = c.args.row in
    let orient = c.args.orient in
    let differ : orient ≡ row → ⊥ = search rules in
    let to_same : c.eq-then-y_symmetric.result ≡ true → orient ≡ c.mirror_y.result = search rules in
    let from_same : orient ≡ c.mirror_y.result → c.eq-then-y_symmetric.result ≡ true = search rules in (
      λ t. inr (c.if-y_symmetric.true, let P : Orient → Type 0 = IsMirrored row in subst P (sym (to_same t)) c.mirror_y.ensures),
      λ fits.
          elim fits [
            | inl same ↦ absurd (differ same)
            | inr both ↦ from_same (mirrored_once row orient c.mirror_y.result both.1 c.mirror_y.ensures)
          ],
    )
