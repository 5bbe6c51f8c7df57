-- The free sites lie in the die.
use Rattle.std.proofs.Common.{◌≡◌, length, ◌<◌, slice_get, Some, refl, ap, ◌∙◌}
use Rattle.std.proofs.lemmas.Option.{slice_get_read, slice_get_within}
use Rattle.leg_lemmas.proofs.Places.{all_at}
use Rattle.leg_lib_records.specs.Measure.{IsExtent}
use Rattle.leg_design_records.specs.WellFormedParts.{IsRow}
use Rattle.leg_legal_sites.specs.Steps.SiteBounds.{DoBound}
use Rattle.leg_legal_sites.proofs.RowBounds.{within_die}
use Rattle.leg_legal_sites.proofs.TakenRows.{same_row}
use Rattle.leg_legal_sites.proofs.row_tree.bounds_of.Goals as goal

pub of_row-requires : goal.of_row-requires
of_row-requires g c =
    let design = c.args.design.now in
    let number = c.args.number in
    let row = c.index-rows-number.result in
    let at : slice_get design.rows number ≡ Some row =
    rw (← c.rows.ensures.is) (slice_get_read c.rows.result.now _ number row refl (rw c.rows.ensures.is c.requires.there) c.index-rows-number.is) in
    let is_row = all_at (IsRow design.library) design.rows number row c.rows.ensures.proper.rows at in
    let site = c.index-sites-row.result in
    let same : c.sites.result.now ≡ design.library.sites = c.sites.ensures ∙ ap (λ l. l.sites) c.library.ensures.is in
    let within : row.site < length c.sites.result.now = rw same (slice_get_within design.library.sites row.site is_row.site is_row.there) in
    let there : slice_get design.library.sites row.site ≡ Some site =
    rw (← same) (slice_get_read c.sites.result.now _ row.site site refl within c.index-sites-row.is) in
    let extent : IsExtent site.size = rw (← c.index-sites-row.is) at c.height-height.ensures.proper in
    rw (← c.index-sites-row.is) (within_die number row site.size extent.area design.die c.rows.ensures.proper.die c.args.sites.now
    (c.requires.inside row site (record { there = at; sited = there })))

pub returns : goal.returns
returns g c =
    let design = c.args.design.now in
    let number = c.args.number in
    let row = c.index-rows-number.result in
    let at : slice_get design.rows number ≡ Some row =
    rw (← c.rows.ensures.is) (slice_get_read c.rows.result.now _ number row refl (rw c.rows.ensures.is c.requires.there) c.index-rows-number.is) in
    let is_row = all_at (IsRow design.library) design.rows number row c.rows.ensures.proper.rows at in
    let site = c.index-sites-row.result in
    let same : c.sites.result.now ≡ design.library.sites = c.sites.ensures ∙ ap (λ l. l.sites) c.library.ensures.is in
    let within : row.site < length c.sites.result.now = rw same (slice_get_within design.library.sites row.site is_row.site is_row.there) in
    let there : slice_get design.library.sites row.site ≡ Some site =
    rw (← same) (slice_get_read c.sites.result.now _ row.site site refl within c.index-sites-row.is) in
    let bound : DoBound c.of_row.result number row site.size c.args.sites.now = rw (← c.index-sites-row.is) at c.of_row.ensures in
    λ other its is. let one = same_row design number row other site its (record { there = at; sited = there }) is in rw (one.0, one.1) bound
