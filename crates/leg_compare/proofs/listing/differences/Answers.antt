use Rattle.leg_compare.proofs.BetweenRanks.{all_listed}
use Rattle.leg_compare.proofs.listing.differences.Goals as goal

pub returns : goal.returns
returns g c = all_listed c.args.first.now c.args.second.now c.push_section-5.new.list.items c.in_ok-push_section-5.ensures
