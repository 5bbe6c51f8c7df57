-- The overlaps of the pairs so far are listed behind the violations of the other kinds.
use Rattle.std.proofs.Common.{◌≡◌, ◌++◌, map, take}
use Rattle.leg_place.proofs.Overlaps.{overlap_of}
use Rattle.leg_place.proofs.overlap.push_overlaps.Given as goal

abbrev pub invariant-loop-a : goal.invariant-loop-a
invariant-loop-a g l = l.found.items ≡ l.fn.found.items ++ map (overlap_of l.boxes.items) (take l.a-index l.a-items)
