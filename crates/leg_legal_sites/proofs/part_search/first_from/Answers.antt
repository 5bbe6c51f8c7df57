-- Stretches that are too short are passed, and the first other one has the first sites.
use Rattle.std.proofs.Common.{◌≡◌, ◌-◌, ◌<◌, ◌≤◌, max, length, get_or, arith}
use Rattle.std.proofs.lemmas.Option.{slice_get-get_or}
use Rattle.leg_legal_sites.specs.declared.stretch.Stretch.{Stretch}
use Rattle.leg_legal_sites.proofs.FirstFits.{passed_none, passed_more, first_found, first_none}
use Rattle.leg_legal_sites.proofs.part_search.first_from.Goals as goal

pub loop-i-init : goal.loop-i-init
loop-i-init c = passed_none c.args.free.now c.args.many c.args.least c.args.next c.requires.some c.requires.next

pub returns-then-saturating_sub-many : goal.returns-then-saturating_sub-many
returns-then-saturating_sub-many c =
    let free = c.args.free.now in
    let i = c.loop-i.i in
    let s : Stretch = get_or free i (record { from = 0; end = 0 }) in
    let within : i < length free = omega arith in
    let first : c.max-first.result ≡ max s.from c.args.least = c.max-first.ensures in
    let long : c.args.many ≤ s.end - max s.from c.args.least = omega arith in
    rw first (first_found free c.args.many c.args.least i s c.requires.stretches c.requires.some
    (slice_get-get_or free i (record { from = 0; end = 0 }) within) long c.loop-i.invariant)

pub loop-i-preserved : goal.loop-i-preserved
loop-i-preserved c =
    let free = c.args.free.now in
    let i = c.loop-i.i in
    let s : Stretch = get_or free i (record { from = 0; end = 0 }) in
    let within : i < length free = omega arith in
    let first : c.max-first.result ≡ max s.from c.args.least = c.max-first.ensures in
    let short : s.end - max s.from c.args.least < c.args.many = omega arith in
    passed_more free c.args.many c.args.least i s (slice_get-get_or free i (record { from = 0; end = 0 }) within) short c.loop-i.invariant

pub returns : goal.returns
returns c =
    let free = c.args.free.now in
    first_none free c.args.many c.args.least c.loop-i.i c.requires.stretches c.requires.some (omega arith) c.loop-i.invariant
