-- The rectangles of the items so far.
use Rattle.std.proofs.Common.{◌≡◌, ◌+◌, map, take}
use Rattle.leg_sweep.specs.Steps.Cut.{cut_at, left_edge_at}
use Rattle.leg_sweep.proofs.cut.cut_rects.Given as goal

abbrev pub invariant-loop-item : goal.invariant-loop-item
invariant-loop-item g l =
    let rule = g.R.PairRule in
    let rect_of = rule.rect_of (rule.fixed l.fn.rule) in record {
      cut : l.rects.items ≡ map (λ a. cut_at (left_edge_at rect_of l.items l.rightmost) (rect_of a)) (take l.item-index l.items);
      looks : rule.looks_of l.rule ≡ rule.looks_of l.fn.rule + l.item-index;
      tests : rule.tests_of l.rule ≡ rule.tests_of l.fn.rule;
      same : rule.fixed l.rule ≡ rule.fixed l.fn.rule;
    }
