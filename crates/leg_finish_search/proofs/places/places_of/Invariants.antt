-- A place for each value so far.
use Rattle.std.proofs.Common.{◌≡◌, length}
use Rattle.leg_finish_search.proofs.places.places_of.Given as goal

abbrev pub invariant-loop-value : goal.invariant-loop-value
invariant-loop-value g l = length l.places.items ≡ l.value-index
