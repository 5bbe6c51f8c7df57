-- The nets of the places so far.
use Rattle.std.proofs.Common.{take}
use Rattle.std.specs.List.{AllZip}
use Rattle.leg_finish.specs.Steps.Places.{IsNetAt}
use Rattle.leg_finish.proofs.unfinished.nets_at.Given as goal

abbrev pub invariant-loop-place : goal.invariant-loop-place
invariant-loop-place g l = AllZip (IsNetAt l.nets) (take l.place-index l.places) l.numbers.items
