-- The sites of the rows, sorted, without those that the last one kept covers.
use Rattle.std.proofs.Common.{rules}
use Rattle.std.proofs.lemmas.Fn.{dedup_same}
use Rattle.leg_place.proofs.KeptSpans.{goes, spans_kept}
use Rattle.leg_place.proofs.row_spans.row_spans.Goals as goal

pub returns : goal.returns
returns g c =
    let design = c.args.design.now in
    let kept = dedup_same _ goes _ (λ x y b f' x' y' k. search rules) _ _ c.dedup_by.ensures.filtered in
    spans_kept design.library design.rows c.in_ok-spans.spans.items c.sort_unstable.new.self.items c.dedup_by.new.self.items c.in_ok-spans.ensures
    c.sort_unstable.ensures.permutation c.sort_unstable.ensures.sorted kept
