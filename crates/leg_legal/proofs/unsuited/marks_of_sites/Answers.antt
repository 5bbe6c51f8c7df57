-- One more site is marked.
use Rattle.std.proofs.Common.{◌≡◌, false, length, slice_get, Some, refl, ap, ◌∙◌, arith, rules}
use Rattle.std.proofs.Math.ListN.{replicate}
use Rattle.std.proofs.lemmas.Option.{slice_get_read, slice_get_within}
use Rattle.leg_lemmas.proofs.Places.{all_at}
use Rattle.leg_design_records.specs.WellFormedParts.{IsRow}
use Rattle.leg_legal.proofs.SiteMarks.{marks_of_none, marks_of_more, marks_of_all}
use Rattle.leg_legal.proofs.unsuited.marks_of_sites.Goals as goal

pub loop-row-init : goal.loop-row-init
loop-row-init g c =
    let same : c.sites.result.now ≡ c.args.design.now.library.sites = c.sites.ensures ∙ ap (λ l. l.sites) c.library.ensures.is in
    let items : c.in_ok-marks.marks.items ≡ replicate (length c.sites.result.now) false = search rules in
    marks_of_none c.args.design.now c.in_ok-marks.marks.items (items ∙ ap (λ xs. replicate (length xs) false) same)

pub index_mut-requires : goal.index_mut-requires
index_mut-requires g c =
    let design = c.args.design.now in
    let row = c.row-item.result in
    let at : slice_get design.rows c.loop-row.row-index ≡ Some row =
    rw (← c.rows-row-items.ensures.is) (slice_get_read c.rows-row-items.result.now _ c.loop-row.row-index row refl (omega arith) c.row-item.is) in
    let is_row = all_at (IsRow design.library) design.rows c.loop-row.row-index row c.rows-row-items.ensures.proper.rows at in
    let within = slice_get_within design.library.sites row.site is_row.site is_row.there in
    let count = c.loop-row.invariant.count in
    omega (arith, within, count)

pub loop-row-preserved : goal.loop-row-preserved
loop-row-preserved g c =
    let design = c.args.design.now in
    let row = c.row-item.result in
    let at : slice_get design.rows c.loop-row.row-index ≡ Some row =
    rw (← c.rows-row-items.ensures.is) (slice_get_read c.rows-row-items.result.now _ c.loop-row.row-index row refl (omega arith) c.row-item.is) in
    let is_row = all_at (IsRow design.library) design.rows c.loop-row.row-index row c.rows-row-items.ensures.proper.rows at in
    marks_of_more design c.loop-row.row-index row at c.loop-row.marks.items c.loop-row.invariant
    (slice_get_within design.library.sites row.site is_row.site is_row.there)

pub returns : goal.returns
returns g c =
    let all : c.loop-row.row-index ≡ length c.args.design.now.rows = rw (← c.rows-row-items.ensures.is) (omega arith) in
    marks_of_all c.args.design.now _ c.loop-row.row-index all c.loop-row.invariant
