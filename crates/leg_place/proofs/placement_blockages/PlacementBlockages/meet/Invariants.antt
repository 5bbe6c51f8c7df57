-- None of the near rectangles so far meets the box, and what is left is near.
use Rattle.std.proofs.Common.{◌≡◌, ◌++◌, All}
use Rattle.leg_place.proofs.MetRects.{IsClearAt}
use Rattle.leg_place.proofs.placement_blockages.PlacementBlockages.meet.Given as goal

abbrev pub invariant-loop-number : goal.invariant-loop-number
invariant-loop-number g l = record {
  can : (goal.iterator-loop-number g).can_next l.number-iterator;
  ends : (goal.iterator-loop-number g).is_finite l.number-iterator;
  so_far : l.initial.number-iterator ≡ l.yielded ++ l.number-iterator;
  clear : All (IsClearAt l.self-inside.rects.items l.rect) l.yielded;
}
