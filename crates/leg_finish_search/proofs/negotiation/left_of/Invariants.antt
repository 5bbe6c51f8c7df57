-- The places so far are of the nets, in increasing order, each below the next one.
use Rattle.std.proofs.Common.{◌<◌, All, AllPairs, length}
use Rattle.leg_finish_search.proofs.negotiation.left_of.Given as goal

abbrev pub invariant-loop-place : goal.invariant-loop-place
invariant-loop-place g l = record {
  within : All (λ place. place < length l.board.nets.now) l.left.items;
  below : All (λ place. place < l.place) l.left.items;
  increasing : AllPairs (λ a b. a < b) l.left.items;
}
