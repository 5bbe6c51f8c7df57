-- The first stretch begins beyond the site.
use Rattle.std.proofs.Common.{◌≡◌, ◌-◌, ◌<◌, length, sym, ◌∙◌, arith}
use Rattle.std.proofs.lemmas.Bool.{eqb-false, leb-true}
use Rattle.std.proofs.lemmas.Option.{slice_get-get_or}
use Rattle.leg_legal_sites.specs.declared.stretch.Stretch.{Stretch}
use Rattle.leg_legal_sites.specs.Steps.Parts.{AreMeasured}
use Rattle.leg_legal_sites.proofs.Parts.{begins_beyond}
use Rattle.leg_legal_sites.proofs.free_sites.FreeSites.begin_beyond.Goals as goal

abbrev none : Stretch
none = record { from = 0; end = 0 }

pub returns : goal.returns
returns g c t =
    let free = c.as_slice-free.result.now in
    let is : free ≡ c.args.self.now = c.as_slice-free.ensures.value ∙ c.self.view_is in
    let some : 0 < length free = omega (arith, eqb-false (length free) 0 (sym c.if-is_empty.ensures)) in
    let m : AreMeasured c.self.inside.longest free = rw c.as_slice-free.ensures.value c.self.invariant in
    rw (← is) (begins_beyond free m.are _ _ (slice_get-get_or free 0 none some)
    (slice_get-get_or free (length free - 1) none (omega (arith, some))) c.args.site (leb-true _ _ t))
