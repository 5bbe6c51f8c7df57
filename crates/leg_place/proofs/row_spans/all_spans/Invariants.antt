-- The sites of the rows so far.
use Rattle.leg_place.specs.Steps.RowSpans.{AreSpansBelow}
use Rattle.leg_place.proofs.row_spans.all_spans.Given as goal

abbrev pub invariant-loop-row : goal.invariant-loop-row
invariant-loop-row g l = AreSpansBelow l.design.library l.design.rows l.row-index l.spans.items
