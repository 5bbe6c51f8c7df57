use Rattle.std.proofs.Common.{◌∙◌, ap, refl, rules, w64, SFits}
use Rattle.std.specs.Iterator.Adapters.{zip_first, zip_second}
use Rattle.std.specs.Slice.Iter.{iter_rest}
use Rattle.std.proofs.lemmas.Int.{to_z-of_z}
use Rattle.std.proofs.lemmas.Slice.Zip.{Zip-more, either_empty_from_Zip}
use Rattle.leg_app_lines.proofs.MoveLines.{next_line, no_line_yet, lines_end}
use Rattle.leg_app_lines.proofs.legalise.legalised_text.Goals as goal

pub returns : goal.returns
returns g c =
    let empty = either_empty_from_Zip c.loop-component.component-iterator c.next.new.self _ refl c.in-None.ensures.steps in
    let total : SFits w64 c.args.moves.now.total = search rules in
    let greatest : SFits w64 c.args.moves.now.greatest = search rules in
    let last = rw (to_z-of_z w64 c.args.moves.now.total total, to_z-of_z w64 c.args.moves.now.greatest greatest) at c.in_ok-push_totals.ensures in
    lines_end _ _ _ _ _ _ empty c.loop-component.invariant last

pub loop-component-preserved : goal.loop-component-preserved
loop-component-preserved g c =
    let turn = Zip-more c.loop-component.component-iterator c.next.new.self _ (c.in-Some.component, c.in-Some.distance) refl c.in-Some.ensures.steps in
    let fits : SFits w64 c.in-Some.distance.now = search rules in
    let line = rw (to_z-of_z w64 c.in-Some.distance.now fits) at c.in_ok-push_move.ensures in
    next_line _ _ _ _ _ _ _ _ _ turn.0 turn.1 line c.loop-component.invariant

pub loop-component-init : goal.loop-component-init
loop-component-init g c =
    let first =
    ap iter_rest (ap zip_first c.into_iter-component-iterator.ensures.into_iter_gives ∙ c.zip-component-items.ensures.first) ∙ c.iter.ensures.rest
    ∙ c.components.ensures.is in
    let second =
    ap (λ pairs. iter_rest (zip_second pairs)) c.into_iter-component-iterator.ensures.into_iter_gives ∙ c.zip-component-items.ensures.second.0
    ∙ c.as_slice.ensures in
    no_line_yet _ _ _ _ _ _ c.in_ok-text.ensures first second
