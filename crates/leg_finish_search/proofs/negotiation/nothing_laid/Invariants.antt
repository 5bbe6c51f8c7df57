-- So many so far, each without walks.
use Rattle.std.proofs.Common.{◌≡◌, ℕ, All, length}
use Rattle.leg_finish_search.specs.Steps.NetWalks.{IsLaidIn}
use Rattle.leg_finish_search.proofs.negotiation.nothing_laid.Given as goal

abbrev pub invariant-loop : goal.invariant-loop
invariant-loop g l = record {
  count : length l.laid.items ≡ l.counter;
  laid : (size : ℕ) → All (IsLaidIn size) l.laid.items;
}
