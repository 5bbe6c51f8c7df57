-- The components so far are marked.
use Rattle.leg_legal.specs.Steps.Marks.{AreMarksBelow}
use Rattle.leg_legal.proofs.staying.marks_of_staying.Given as goal

abbrev pub invariant-loop-i : goal.invariant-loop-i
invariant-loop-i g l = AreMarksBelow l.design l.i l.marks.items
