-- The left part is written where the whole was, and the right one put in after it.
use Rattle.std.proofs.Common.{◌<◌, length, rules}
use Rattle.leg_legal_sites.proofs.ListSplit.{split_is}
use Rattle.leg_legal_sites.proofs.take_sites.split.Goals as goal

pub returns-clause-ok : goal.returns-clause-ok
returns-clause-ok g c =
    let within : c.args.at < length c.args.stretches.now.items = search rules in
    rw c.in_ok-insert.ensures.items (split_is c.args.stretches.now.items c.args.at c.args.left c.args.left c.args.right within)
