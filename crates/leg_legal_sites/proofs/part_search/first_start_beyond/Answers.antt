-- The stretch that ends beyond the site begins by it, or beyond it.
use Rattle.std.proofs.Common.{◌≡◌, get_or, Some, slice_get, sym, ◌∙◌, arith}
use Rattle.std.proofs.lemmas.Option.{same_Some, slice_get_within, slice_get-get_or}
use Rattle.leg_legal_sites.specs.declared.stretch.Stretch.{Stretch}
use Rattle.leg_legal_sites.proofs.LastFits.{begun_here, begun_none}
use Rattle.leg_legal_sites.proofs.part_search.first_start_beyond.Goals as goal

abbrev none : Stretch
none = record { from = 0; end = 0 }

pub returns-then-next-free : goal.returns-then-next-free
returns-then-next-free c =
    let free = c.args.free.now in
    let past = c.if-next-free.true in
    begun_none free c.requires.stretches c.args.site c.args.next c.requires.next
    (λ s at. let within = slice_get_within free c.args.next s at in absurd (omega (arith, past, within)))

pub returns-then-free-next : goal.returns-then-free-next
returns-then-free-next c =
    let free = c.args.free.now in
    let next = c.args.next in
    begun_here free c.requires.stretches c.args.site next c.requires.next (get_or free next none)
    (slice_get-get_or free next none (omega (arith, c.if-next-free.false))) c.if-free-next.true

pub returns : goal.returns
returns c =
    let free = c.args.free.now in
    let next = c.args.next in
    let s : Stretch = get_or free next none in
    let at : slice_get free next ≡ Some s = slice_get-get_or free next none (omega (arith, c.if-next-free.false)) in
    let beyond = c.if-free-next.false in
    begun_none free c.requires.stretches c.args.site next c.requires.next
    (λ t there. let one : s ≡ t = same_Some s t (sym at ∙ there) in rw (← one) (omega (arith, beyond)))
