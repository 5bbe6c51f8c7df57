-- One more stretch is no longer.
use Rattle.std.proofs.Common.{◌≡◌, ◌-◌, get_or, slice_get, inl, inr, sym, ap, ◌∙◌, arith}
use Rattle.std.proofs.lemmas.Bool.{cases_lt}
use Rattle.std.proofs.lemmas.Option.{same_Some, slice_get-get_or}
use Rattle.leg_legal_sites.specs.declared.stretch.Stretch.{Stretch}
use Rattle.leg_legal_sites.proofs.Parts.{measured}
use Rattle.leg_legal_sites.proofs.free_sites.longest_of.Goals as goal

abbrev none : Stretch
none = record { from = 0; end = 0 }

pub returns : goal.returns
returns c =
    let all = c.loop-stretch-test.false in
    measured c.args.stretches.now c.loop-stretch.longest c.requires
    (λ i d within. c.loop-stretch.invariant i (get_or c.args.stretches.now i d) (omega (arith, all, within)) (slice_get-get_or c.args.stretches.now i d within))

pub loop-stretch-preserved : goal.loop-stretch-preserved
loop-stretch-preserved c n s below at =
    let free = c.args.stretches.now in
    let i = c.loop-stretch.stretch-index in
    let here : Stretch = get_or free i none in
    elim (cases_lt n i) [
      | inl earlier ↦ let long = c.loop-stretch.invariant n s earlier at in omega (arith, long, c.max-longest.ensures)
      | inr late ↦
          let same : n ≡ i = omega (arith, below, late) in
          let one : s ≡ here = same_Some s here (sym at ∙ ap (slice_get free) same ∙ slice_get-get_or free i none c.loop-stretch-test.true) in
          let long : s.end - s.from ≡ here.end - here.from = ap (λ (s : Stretch). s.end - s.from) one in
          omega (arith, long, c.max-longest.ensures, c.saturating_sub.ensures)
    ]
