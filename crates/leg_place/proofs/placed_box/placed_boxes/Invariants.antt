-- The boxes of the components so far are listed.
use Rattle.std.proofs.Common.{◌≤◌, length}
use Rattle.leg_place.specs.Steps.ListPrefix.{AreBoxesBelow}
use Rattle.leg_place.proofs.placed_box.placed_boxes.Given as goal

abbrev pub invariant-loop-i : goal.invariant-loop-i
invariant-loop-i g l = AreBoxesBelow l.design l.marks l.i l.boxes.items × (length l.boxes.items ≤ l.i)
