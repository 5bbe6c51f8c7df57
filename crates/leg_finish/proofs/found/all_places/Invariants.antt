-- The places so far.
use Rattle.std.proofs.Common.{◌≡◌, ◌<◌, All, AllPairs, length}
use Rattle.leg_finish.proofs.found.all_places.Given as goal

abbrev pub invariant-loop-place : goal.invariant-loop-place
invariant-loop-place g l = record {
  count : length l.places.items ≡ l.place;
  within : All (λ place. place < l.place) l.places.items;
  increasing : AllPairs (λ a b. a < b) l.places.items;
}
