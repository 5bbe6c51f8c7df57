-- The sites of the rows so far are marked.
use Rattle.leg_legal.specs.Steps.SiteMarks.{AreSiteMarksBelow}
use Rattle.leg_legal.proofs.unsuited.marks_of_sites.Given as goal

abbrev pub invariant-loop-row : goal.invariant-loop-row
invariant-loop-row g l = AreSiteMarksBelow l.design l.row-index l.marks.items
