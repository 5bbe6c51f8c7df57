-- The leaf of one more row.
use Rattle.std.proofs.Common.{◌≡◌, length, get_or, arith}
use Rattle.std.proofs.lemmas.Option.{slice_get-get_or}
use Rattle.leg_legal_sites.proofs.TakenRows.{nowhere, key_within}
use Rattle.leg_legal_sites.proofs.LeafLists.{leaves_begin, leaf_more}
use Rattle.leg_legal_sites.proofs.rows_inside.rows_inside.Goals as goal

pub loop-key-init : goal.loop-key-init
loop-key-init g c = leaves_begin c.args.design.now c.args.order.now c.in_ok-lists.lists.items c.in_ok-lists.ensures

pub row_inside-requires : goal.row_inside-requires
row_inside-requires g c = key_within c.args.design.now.rows c.args.order.now c.loop-key.key-index c.requires (omega arith)

pub loop-key-preserved : goal.loop-key-preserved
loop-key-preserved g c =
    let order = c.args.order.now in
    let i = c.loop-key.key-index in
    rw c.in_ok-push.ensures.items (leaf_more c.args.design.now order i (get_or order i nowhere) c.in_ok-list.list c.loop-key.lists.items
    (slice_get-get_or order i nowhere (omega arith)) c.in_ok-list.ensures c.loop-key.invariant)

pub returns : goal.returns
returns g c =
    let all : c.loop-key.key-index ≡ length c.args.order.now = omega arith in
    rw (← all) c.loop-key.invariant
