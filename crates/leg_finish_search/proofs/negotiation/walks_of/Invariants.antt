-- The walks of the nets so far.
use Rattle.std.proofs.Common.{◌≡◌, ◌++◌, map}
use Rattle.leg_finish_search.proofs.negotiation.walks_of.Given as goal

abbrev pub invariant-loop-net : goal.invariant-loop-net
invariant-loop-net g l = map (λ net. net.walks) l.fn.laid.items ≡ l.walks.items ++ map (λ net. net.walks) l.net-iterator.rest.items
