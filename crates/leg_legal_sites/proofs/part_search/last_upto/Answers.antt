-- Stretches that are too short are passed, and the first other one from the right has the last sites.
use Rattle.std.proofs.Common.{◌≡◌, ◌+◌, ◌-◌, ◌<◌, ◌≤◌, min, length, get_or, Some, slice_get, arith}
use Rattle.std.proofs.lemmas.Option.{slice_get-get_or}
use Rattle.leg_legal_sites.specs.declared.stretch.Stretch.{Stretch}
use Rattle.leg_legal_sites.proofs.LastFits.{IsPassedDown, passed_down_none, passed_down_more, last_found, last_none}
use Rattle.leg_legal_sites.proofs.part_search.last_upto.Goals as goal

pub loop-i-init : goal.loop-i-init
loop-i-init c = passed_down_none c.args.free.now c.args.many c.args.most c.args.end c.requires.end

pub returns-then-saturating_sub-many : goal.returns-then-saturating_sub-many
returns-then-saturating_sub-many c =
    let free = c.args.free.now in
    let i = c.loop-i.i - 1 in
    let s : Stretch = get_or free i (record { from = 0; end = 0 }) in
    let bound = c.requires.end.within in
    let within : i < length free = omega arith in
    let at : slice_get free i ≡ Some s = slice_get-get_or free i (record { from = 0; end = 0 }) within in
    let begins : s.from ≤ c.args.most = c.requires.end.before i s (omega arith) at in
    let long : c.args.many ≤ s.end - s.from = omega arith in
    let next : c.loop-i.i ≡ i + 1 = omega arith in
    let passed : IsPassedDown free c.args.many c.args.most (i + 1) = rw next at c.loop-i.invariant in
    let last : c.min.result ≡ min c.args.most (s.end - c.args.many) = c.min.ensures in
    rw last (last_found free c.args.many c.args.most i s c.requires.stretches c.requires.some
    (slice_get-get_or free i (record { from = 0; end = 0 }) within) begins long passed)

pub loop-i-preserved : goal.loop-i-preserved
loop-i-preserved c =
    let free = c.args.free.now in
    let i = c.loop-i.i - 1 in
    let s : Stretch = get_or free i (record { from = 0; end = 0 }) in
    let bound = c.requires.end.within in
    let within : i < length free = omega arith in
    let short : s.end - s.from < c.args.many = omega arith in
    let next : c.loop-i.i ≡ i + 1 = omega arith in
    let passed : IsPassedDown free c.args.many c.args.most (i + 1) = rw next at c.loop-i.invariant in
    passed_down_more free c.args.many c.args.most i s (slice_get-get_or free i (record { from = 0; end = 0 }) within) short passed

pub returns : goal.returns
returns c =
    let free = c.args.free.now in
    let none : c.loop-i.i ≡ 0 = omega arith in
    let passed : IsPassedDown free c.args.many c.args.most 0 = rw none at c.loop-i.invariant in
    last_none free c.args.many c.args.most c.requires.stretches c.requires.some passed
