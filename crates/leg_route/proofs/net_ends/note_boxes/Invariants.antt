-- The groups before this one are told of the boxes.
use Rattle.leg_route.proofs.EndGroups.{AreTold}
use Rattle.leg_route.proofs.net_ends.note_boxes.Given as goal

abbrev pub invariant-loop-k : goal.invariant-loop-k
invariant-loop-k l = AreTold l.boxes l.fn.far l.far l.k
