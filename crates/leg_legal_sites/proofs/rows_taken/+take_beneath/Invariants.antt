-- The nodes below one have higher numbers.
use Rattle.std.proofs.Common.{◌-◌, length}
use Rattle.leg_legal_sites.proofs.rows_taken.+take_beneath.Given as goal

abbrev pub decreases-take_beneath : goal.decreases-take_beneath
decreases-take_beneath g l = length l.nodes.now - l.node
