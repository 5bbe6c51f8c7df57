-- All rows are of the site of the first one.
use Rattle.std.proofs.Common.{◌≡◌, ◌<◌, ◌-◌, Some, length, get_or, slice_get, refl, ap, ◌∙◌, arith}
use Rattle.std.proofs.lemmas.Option.{slice_get_read, slice_get_within, slice_get-get_or}
use Rattle.leg_lemmas.proofs.Places.{all_at}
use Rattle.leg_geom.specs.Plane.{IsCoordinate}
use Rattle.leg_lib_records.specs.declared.records.Site.{Site}
use Rattle.leg_design_records.specs.WellFormedParts.{IsRow}
use Rattle.leg_design_records.specs.declared.records.Row.{Row}
use Rattle.leg_legal_sites.specs.declared.row_keys.RowKey.{RowKey}
use Rattle.leg_legal_sites.specs.Steps.FreeLists.{IsRowAt}
use Rattle.leg_legal_sites.proofs.MetSites.{coordinate_passed}
use Rattle.leg_legal_sites.proofs.TakenRows.{nowhere, key_within}
use Rattle.leg_legal_sites.proofs.OnlyRow.{all_so_high}
use Rattle.leg_legal_sites.proofs.only_row.height_of_all.Goals as goal

pub bounds-rows-order : goal.bounds-rows-order
bounds-rows-order g c = rw c.rows.ensures.is (key_within c.args.design.now.rows c.args.order.now 0 c.requires.order c.requires.some)

pub offset_bounds-rows-order : goal.offset_bounds-rows-order
offset_bounds-rows-order g c =
    let below : (get_or c.args.order.now 0 nowhere).row < length c.rows.result.now =
    rw c.rows.ensures.is (key_within c.args.design.now.rows c.args.order.now 0 c.requires.order c.requires.some) in
    omega (arith, below)

pub bounds-sites-row : goal.bounds-sites-row
bounds-sites-row g c =
    let design = c.args.design.now in
    let number = (get_or c.args.order.now 0 nowhere).row in
    let row = c.index-rows-order.result in
    let below : number < length design.rows = key_within design.rows c.args.order.now 0 c.requires.order c.requires.some in
    let at : slice_get design.rows number ≡ Some row =
    rw (← c.rows.ensures.is) (slice_get_read c.rows.result.now _ number row refl (rw c.rows.ensures.is below) c.index-rows-order.is) in
    let is_row = all_at (IsRow design.library) design.rows number row c.rows.ensures.proper.rows at in
    let same : c.sites.result.now ≡ design.library.sites = c.sites.ensures ∙ ap (λ l. l.sites) c.library.ensures.is in
    rw same (slice_get_within design.library.sites row.site is_row.site is_row.there)

pub offset_bounds-sites-row : goal.offset_bounds-sites-row
offset_bounds-sites-row g c =
    let design = c.args.design.now in
    let number = (get_or c.args.order.now 0 nowhere).row in
    let row = c.index-rows-order.result in
    let below : number < length design.rows = key_within design.rows c.args.order.now 0 c.requires.order c.requires.some in
    let at : slice_get design.rows number ≡ Some row =
    rw (← c.rows.ensures.is) (slice_get_read c.rows.result.now _ number row refl (rw c.rows.ensures.is below) c.index-rows-order.is) in
    let is_row = all_at (IsRow design.library) design.rows number row c.rows.ensures.proper.rows at in
    let same : c.sites.result.now ≡ design.library.sites = c.sites.ensures ∙ ap (λ l. l.sites) c.library.ensures.is in
    let room : row.site < length c.sites.result.now = rw same (slice_get_within design.library.sites row.site is_row.site is_row.there) in
    omega (arith, room)

pub returns : goal.returns
returns g c =
    let design = c.args.design.now in
    let order = c.args.order.now in
    let some = c.requires.some in
    let first : RowKey = get_or order 0 nowhere in
    let last : RowKey = get_or order (length order - 1) nowhere in
    let at_first : slice_get order 0 ≡ Some first = slice_get-get_or order 0 nowhere some in
    let at_last : slice_get order (length order - 1) ≡ Some last = slice_get-get_or order (length order - 1) nowhere (omega (arith, some)) in
    let row : Row = c.index-rows-order.result in
    let site : Site = c.index-sites-row.result in
    let below : first.row < length design.rows = key_within design.rows order 0 c.requires.order some in
    let at : slice_get design.rows first.row ≡ Some row =
    rw (← c.rows.ensures.is) (slice_get_read c.rows.result.now _ first.row row refl (rw c.rows.ensures.is below) c.index-rows-order.is) in
    let is_row = all_at (IsRow design.library) design.rows first.row row c.rows.ensures.proper.rows at in
    let same : c.sites.result.now ≡ design.library.sites = c.sites.ensures ∙ ap (λ l. l.sites) c.library.ensures.is in
    let within : row.site < length c.sites.result.now = rw same (slice_get_within design.library.sites row.site is_row.site is_row.there) in
    let sited : slice_get design.library.sites row.site ≡ Some site =
    rw (← same) (slice_get_read c.sites.result.now _ row.site site refl within c.index-sites-row.is) in
    let is : IsRowAt design first.row row site = record { there = at; sited = sited } in
    let tall : c.height.result ≡ site.size.height = rw (← c.index-sites-row.is) at c.height.ensures.is in
    let height = c.height.ensures.proper.height in
    let h : IsCoordinate c.height.result = rw c.height.ensures.is (omega (arith, height)) in
    let high : IsCoordinate site.size.height = rw (← tall) h in
    let one : first.site ≡ last.site = c.if-order.false in
    rw (coordinate_passed c.height.result h, tall)
    (all_so_high order c.requires.order.rising first last at_first at_last one design c.requires.order row site is high)
