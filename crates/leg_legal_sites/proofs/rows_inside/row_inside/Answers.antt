-- The list has the sites of the row in the die.
use Rattle.std.proofs.Common.{◌≡◌, length, ◌<◌, slice_get, Some, refl, ap, ◌∙◌}
use Rattle.std.proofs.lemmas.Option.{slice_get_read, slice_get_within}
use Rattle.leg_lemmas.proofs.Places.{all_at}
use Rattle.leg_design_records.specs.WellFormedParts.{IsRow}
use Rattle.leg_legal_sites.specs.Steps.RowSites.{AreSitesInside}
use Rattle.leg_legal_sites.proofs.RowsInside.{known_of_row}
use Rattle.leg_legal_sites.proofs.rows_inside.row_inside.Goals as goal

pub returns : goal.returns
returns g c =
    let design = c.args.design.now in
    let number = c.args.number in
    let row = c.index-rows-number.result in
    let at : slice_get design.rows number ≡ Some row =
    rw (← c.rows.ensures.is) (slice_get_read c.rows.result.now _ number row refl (rw c.rows.ensures.is c.requires) c.index-rows-number.is) in
    let is_row = all_at (IsRow design.library) design.rows number row c.rows.ensures.proper.rows at in
    let site = c.index-sites-row.result in
    let same : c.sites.result.now ≡ design.library.sites = c.sites.ensures ∙ ap (λ l. l.sites) c.library.ensures.is in
    let within : row.site < length c.sites.result.now = rw same (slice_get_within design.library.sites row.site is_row.site is_row.there) in
    let there : slice_get design.library.sites row.site ≡ Some site =
    rw (← same) (slice_get_read c.sites.result.now _ row.site site refl within c.index-sites-row.is) in
    let inside : AreSitesInside row site.size design.die c.sites_inside-sites.result =
    rw (c.die.ensures.is, ← c.index-sites-row.is) at c.sites_inside-sites.ensures in
    known_of_row c.new.result design number row site c.sites_inside-sites.result (record { there = at; sited = there }) inside c.new.ensures
