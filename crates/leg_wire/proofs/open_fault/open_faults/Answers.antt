-- The pieces of one net after the other that aren't joined.
use Rattle.std.proofs.Common.{◌≡◌, ◌<◌, ◌^◌, [], length, get_or, ap, ◌∙◌, arith}
use Rattle.std.proofs.lemmas.List.{get_or_read}
use Rattle.leg_rules.specs.Joins.Touch.{piece_count}
use Rattle.leg_wire.specs.Steps.OpenViolations.{NamesOnlyUnmarked}
use Rattle.leg_wire.specs.Steps.AddedFaults.{AreAdded}
use Rattle.leg_wire.proofs.Touches.{few_pieces}
use Rattle.leg_wire.proofs.OpenPieces.{nets_within, open_more, open_end}
use Rattle.leg_wire.proofs.open_fault.open_faults.Goals as goal

pub prove-unreachable-requires : goal.prove-unreachable-requires
prove-unreachable-requires g c =
    let within = nets_within c.args.design.now c.args.flat.now c.requires in
    omega (arith, within, c.if-prove.true, c.net_count.ensures.is, ap length c.nets.ensures.is)

pub joined_among-requires-clause-numbers : goal.joined_among-requires-clause-numbers
joined_among-requires-clause-numbers g c =
    let net = c.loop-net.net in
    let lists = c.in_ok-numbers.numbers.items in
    let low : net < length c.nets.result.now = omega arith in
    let list : c.as_slice.result.now ≡ get_or lists net [] =
    c.as_slice.ensures ∙ get_or_read lists net c.index.result.now (omega (arith, low, c.in_ok-numbers.ensures.long)) c.index.ensures [] in
    rw (list, ← c.shapes.ensures.is) (c.in_ok-numbers.ensures.each net low)

pub push_open-requires : goal.push_open-requires
push_open-requires g c =
    let few : piece_count c.args.flat.now c.loop-net.net < 2 ^ 32 = few_pieces c.args.flat.now c.loop-net.net c.net_count.ensures.proper.pieces in
    rw c.deref.ensures.value (omega (arith, c.in_ok-marks.ensures.count, few))

pub loop-net-preserved : goal.loop-net-preserved
loop-net-preserved g c =
    let design = c.args.design.now in
    let net = c.loop-net.net in
    let marks = c.in_ok-marks.marks.items in
    let added : AreAdded (NamesOnlyUnmarked net marks) c.loop-net.found.items c.push_open.new.found.items =
    rw c.deref.ensures.value at c.in_ok-push_open.ensures in
    let entry : net < length design.nets = omega (arith, ap length c.nets.ensures.is) in
    open_more design c.args.flat.now net marks entry c.in_ok-marks.ensures c.loop-net.found.items c.push_open.new.found.items c.loop-net.invariant added

pub returns : goal.returns
returns g c =
    let last : c.loop-net.net ≡ length c.args.design.now.nets = omega (arith, ap length c.nets.ensures.is) in
    open_end c.args.design.now c.args.flat.now c.loop-net.net c.loop-net.found.items last c.loop-net.invariant
