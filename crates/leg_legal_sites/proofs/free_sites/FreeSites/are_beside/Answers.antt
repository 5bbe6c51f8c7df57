-- The first and the last stretch lie beside what is taken.
use Rattle.std.proofs.Common.{◌-◌, ◌<◌, length, sym, ◌∙◌, inl, inr, arith}
use Rattle.std.proofs.lemmas.Bool.{eqb-true, eqb-false, leb-true}
use Rattle.std.proofs.lemmas.Option.{slice_get-get_or}
use Rattle.leg_legal_sites.specs.declared.stretch.Stretch.{Stretch}
use Rattle.leg_legal_sites.specs.Steps.Parts.{AreMeasured}
use Rattle.leg_legal_sites.proofs.Parts.{beside_kept, none_loses}
use Rattle.leg_legal_sites.proofs.free_sites.FreeSites.are_beside.Goals as goal

abbrev none : Stretch
none = record { from = 0; end = 0 }

pub returns-then-is_empty : goal.returns-then-is_empty
returns-then-is_empty g c t =
    let free = c.as_slice-free.result.now in
    let is = c.as_slice-free.ensures.value ∙ c.self.view_is in
    rw (← is) (none_loses free c.args.from c.args.end (eqb-true (length free) 0 (sym c.if-is_empty.ensures)))

pub returns-then-end-free : goal.returns-then-end-free
returns-then-end-free g c t =
    let free = c.as_slice-free.result.now in
    let is = c.as_slice-free.ensures.value ∙ c.self.view_is in
    let some : 0 < length free = omega (arith, eqb-false (length free) 0 (sym c.if-is_empty.ensures)) in
    let m : AreMeasured c.self.inside.longest free = rw c.as_slice-free.ensures.value c.self.invariant in
    rw (← is) (beside_kept free m.are _ _ (slice_get-get_or free 0 none some)
    (slice_get-get_or free (length free - 1) none (omega (arith, some))) c.args.from c.args.end (inl c.if-end-free.true))

pub returns : goal.returns
returns g c t =
    let free = c.as_slice-free.result.now in
    let is = c.as_slice-free.ensures.value ∙ c.self.view_is in
    let some : 0 < length free = omega (arith, eqb-false (length free) 0 (sym c.if-is_empty.ensures)) in
    let m : AreMeasured c.self.inside.longest free = rw c.as_slice-free.ensures.value c.self.invariant in
    rw (← is) (beside_kept free m.are _ _ (slice_get-get_or free 0 none some)
    (slice_get-get_or free (length free - 1) none (omega (arith, some))) c.args.from c.args.end (inr (leb-true _ _ t)))
