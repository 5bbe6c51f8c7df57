-- One more node has no list.
use Rattle.std.proofs.Common.{◌≡◌, arith, rules}
use Rattle.leg_legal_sites.proofs.LeafLists.{none_begin, none_more}
use Rattle.leg_legal_sites.proofs.rows_inside.no_lists.Goals as goal

pub loop-init : goal.loop-init
loop-init g c = none_begin _ (search rules)

pub loop-preserved : goal.loop-preserved
loop-preserved g c = rw c.in_ok-push.ensures.items (none_more c.loop.counter c.loop.lists.items c.loop.invariant)

pub returns : goal.returns
returns g c =
    let all : c.loop.counter ≡ c.args.count = omega arith in
    rw (← all) c.loop.invariant
