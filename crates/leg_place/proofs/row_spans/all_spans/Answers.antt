-- The sites of one more row.
use Rattle.std.proofs.Common.{◌≡◌, length, ◌<◌, slice_get, Some, refl, ap, ◌∙◌, arith}
use Rattle.std.proofs.lemmas.Option.{slice_get_read, slice_get_within}
use Rattle.leg_lemmas.proofs.Places.{all_at}
use Rattle.leg_design_records.specs.WellFormedParts.{IsRow}
use Rattle.leg_place.specs.Steps.RowSpans.{IsRowSpan}
use Rattle.leg_place.proofs.KeptSpans.{spans_more}
use Rattle.leg_place.proofs.row_spans.all_spans.Goals as goal

pub loop-row-preserved : goal.loop-row-preserved
loop-row-preserved g c =
    let design = c.args.design.now in
    let i = c.loop-row.row-index in
    let row = c.row-item.result in
    let at : slice_get design.rows i ≡ Some row =
    rw (← c.rows-row-items.ensures.is) (slice_get_read c.rows-row-items.result.now _ i row refl (omega arith) c.row-item.is) in
    let is_row = all_at (IsRow design.library) design.rows i row c.rows-row-items.ensures.proper.rows at in
    let site = c.index-sites-row.result in
    let same : c.sites.result.now ≡ design.library.sites = c.sites.ensures ∙ ap (λ l. l.sites) c.library.ensures.is in
    let within : row.site < length c.sites.result.now = rw same (slice_get_within design.library.sites row.site is_row.site is_row.there) in
    let there : slice_get design.library.sites row.site ≡ Some site =
    rw (← same) (slice_get_read c.sites.result.now _ row.site site refl within c.index-sites-row.is) in
    let span : IsRowSpan design.library row c.new.result =
    record { site = site; there = there; is = rw (c.row_rect.ensures, ← c.index-sites-row.is) at c.new.ensures } in
    rw c.in_ok-push.ensures.items (spans_more design.library design.rows c.loop-row.spans.items i row c.new.result at is_row.some span c.loop-row.invariant)

pub returns : goal.returns
returns g c = let last : c.loop-row.row-index ≡ length c.args.design.now.rows = rw (← c.rows-row-items.ensures.is) (omega arith) in
    rw (← last) c.loop-row.invariant
