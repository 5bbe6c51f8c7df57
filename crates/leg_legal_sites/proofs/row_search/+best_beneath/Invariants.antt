-- The nodes below one have higher numbers.
use Rattle.std.proofs.Common.{◌-◌, ◌*◌, length}
use Rattle.leg_legal_sites.proofs.row_search.+best_beneath.Given as goal

abbrev pub decreases-best_beneath : goal.decreases-best_beneath
decreases-best_beneath g l = 2 * length l.order.now - l.branch.now.node
