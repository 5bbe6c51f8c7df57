-- The pieces of one net after the other.
use Rattle.std.proofs.Common.{◌≡◌, ◌≤◌, ◌<◌, [], ◌++◌, map, length, get_or, ap, ◌∙◌, arith}
use Rattle.std.proofs.lemmas.List.{get_or_read}
use Rattle.leg_drc.proofs.CutOffPieces.{nets_within, shapes_proper, cut_off_more, cut_off_all}
use Rattle.leg_drc.proofs.supply.cut_off_pieces.Goals as goal

pub cut_off_of_net-requires-clause-numbers : goal.cut_off_of_net-requires-clause-numbers
cut_off_of_net-requires-clause-numbers g c =
    let net = c.loop-net.net in
    let lists = c.in_ok-numbers.numbers.items in
    let low : net < c.net_count-nets.result = omega arith in
    let list : c.as_slice.result.now ≡ get_or lists net [] =
    c.as_slice.ensures ∙ get_or_read lists net c.index.result.now (omega (arith, low, c.in_ok-numbers.ensures.long)) c.index.ensures [] in
    rw (list, ← c.shapes.ensures.is) (c.in_ok-numbers.ensures.each net low)

pub cut_off_of_net-requires-clause-proper : goal.cut_off_of_net-requires-clause-proper
cut_off_of_net-requires-clause-proper g c = shapes_proper c.args.design.now c.args.flat.now c.requires

pub loop-net-preserved : goal.loop-net-preserved
loop-net-preserved g c =
    let design = c.args.design.now in
    let net = c.loop-net.net in
    let pieces = c.in_ok-pieces.pieces.items in
    let alone : length design.nets ≤ net = omega (arith, ap length c.nets.ensures.is) in
    let found : c.push_pieces.new.found.items ≡ c.loop-net.found.items ++ map (λ k. (net, k)) pieces =
    rw c.deref.ensures.value at c.in_ok-push_pieces.ensures in
    rw found (cut_off_more design c.args.flat.now net alone c.loop-net.found.items pieces c.loop-net.invariant c.in_ok-pieces.ensures)

pub returns : goal.returns
returns g c =
    cut_off_all c.args.design.now c.args.flat.now c.loop-net.net c.loop-net.found.items
    (let within = nets_within c.args.design.now c.args.flat.now c.requires in omega (arith, within, ap length c.nets.ensures.is, c.net_count-nets.ensures.is))
    c.loop-net.invariant
