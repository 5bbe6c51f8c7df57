use Rattle.std.proofs.lemmas.Result.{on_ok_weaker}
use Rattle.leg_compare.proofs.BetweenRanks.{none_listed, parts_end}
use Rattle.leg_compare.proofs.listing.push_parts.Goals as goal

pub push_part-requires : goal.push_part-requires
push_part-requires g c = rw c.requires (none_listed c.args.first.now c.args.second.now)

pub returns : goal.returns
returns g c = on_ok_weaker c.push_part-7.result (λ listed. parts_end c.args.first.now c.args.second.now _ listed) c.push_part-7.ensures
