-- One more part has lost the sites, or none of them is its.
use Rattle.std.proofs.Common.{◌<◌, length, arith}
use Rattle.std.proofs.lemmas.Option.{slice_get-get_or}
use Rattle.leg_legal_sites.proofs.Parts.{lost_none, lost_more, lost_beside, lost_rest, lost_fewer, set_fewer, fewer_then}
use Rattle.leg_legal_sites.proofs.take_parts.take_from_parts.Goals as goal

pub loop-i-init : goal.loop-i-init
loop-i-init g c = lost_none c.args.from c.args.end c.args.first c.args.parts.now c.requires.before

pub loop-i-preserved-then-are_beside : goal.loop-i-preserved-then-are_beside
loop-i-preserved-then-are_beside g c =
    let mid = c.loop-i.parts in
    let i = c.loop-i.i in
    let within : i < length mid = omega (arith, c.loop-i-test.true, c.loop-i.auto.parts) in
    lost_beside c.args.from c.args.end i c.args.parts.now mid _ (slice_get-get_or mid i c.index-parts-i.result within)
    (c.are_beside.ensures c.if-are_beside.true) c.loop-i.invariant

pub loop-i-preserved : goal.loop-i-preserved
loop-i-preserved g c =
    let mid = c.loop-i.parts in
    let i = c.loop-i.i in
    let within : i < length mid = omega (arith, c.loop-i-test.true, c.loop-i.auto.parts) in
    lost_more c.args.from c.args.end i c.args.parts.now mid _ c.take.new.self
    (slice_get-get_or mid i c.index-parts-i-in-loop-i.result within) c.in_ok-take.ensures.ok.sites c.loop-i.invariant

pub returns-in_err-take-clause-fewer : goal.returns-in_err-take-clause-fewer
returns-in_err-take-clause-fewer g c =
    let mid = c.loop-i.parts in
    let i = c.loop-i.i in
    let within : i < length mid = omega (arith, c.loop-i-test.true, c.loop-i.auto.parts) in
    let same = c.in_err-take.ensures.err in
    fewer_then c.args.parts.now mid _ (lost_fewer c.args.from c.args.end c.args.parts.now mid i c.loop-i.invariant)
    (set_fewer mid i _ c.take.new.self (slice_get-get_or mid i c.index-parts-i-in-loop-i.result within) (rw same (λ k site. site)))

pub returns : goal.returns
returns g c =
    let old = c.args.parts.now in
    let i = c.loop-i.i in record {
      lost = lost_rest c.args.from c.args.end old c.loop-i.parts c.args.last i c.loop-i-test.false c.requires.beyond c.loop-i.invariant;
      fewer = lost_fewer c.args.from c.args.end old c.loop-i.parts i c.loop-i.invariant;
    }
