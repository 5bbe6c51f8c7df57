-- The first stretch that begins beyond, or none does.
use Rattle.std.proofs.Common.{◌<◌, ◌≤◌, length, get_or, arith}
use Rattle.std.proofs.lemmas.Option.{slice_get-get_or}
use Rattle.leg_legal_sites.specs.declared.stretch.Stretch.{Stretch}
use Rattle.leg_legal_sites.proofs.CutPoints.{begun_before, begun_more, cut_at_first, cut_at_end}
use Rattle.leg_legal_sites.proofs.take_sites.cut_end.Goals as goal

abbrev none : Stretch
none = record { from = 0; end = 0 }

pub loop-i-init : goal.loop-i-init
loop-i-init c = begun_before c.args.free.now c.requires.stretches c.args.from c.args.end c.args.first c.requires.first c.requires.some

pub loop-i-preserved : goal.loop-i-preserved
loop-i-preserved c =
    let free = c.args.free.now in
    let i = c.loop-i.i in
    let s : Stretch = get_or free i none in
    let within : i < length free = omega arith in
    let begins : s.from < c.args.end = omega arith in
    begun_more free c.requires.stretches c.args.from c.args.end c.args.first c.requires.first c.requires.some i s (slice_get-get_or free i none within) begins
    c.loop-i.invariant

pub returns-then-free-i : goal.returns-then-free-i
returns-then-free-i c =
    let free = c.args.free.now in
    let i = c.loop-i.i in
    let s : Stretch = get_or free i none in
    let within : i < length free = omega arith in
    let begins : c.args.end ≤ s.from = omega arith in
    let at = slice_get-get_or free i none within in
    record {
      cut = cut_at_first free c.requires.stretches c.args.from c.args.end c.args.first c.requires.first c.requires.some i s at begins c.loop-i.invariant;
      within = omega (arith, within);
    }

pub returns-clause-cut : goal.returns-clause-cut
returns-clause-cut c =
    let all : length c.args.free.now ≤ c.loop-i.i = omega arith in
    cut_at_end c.args.free.now c.requires.stretches c.args.from c.args.end c.args.first c.requires.first c.requires.some c.loop-i.i all c.loop-i.invariant
