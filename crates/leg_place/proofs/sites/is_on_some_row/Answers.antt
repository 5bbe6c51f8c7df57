-- A macro stands on a row just where it is whole and a row has its sites.
use Rattle.std.proofs.Common.{◌≡◌, ◌≤◌, slice_get, length, Some, refl, sym, ap, ◌∙◌}
use Rattle.std.proofs.lemmas.Bool.{false≢true}
use Rattle.std.proofs.lemmas.Option.{slice_get_read}
use Rattle.leg_rules.specs.Placement.Box.{placed_box}
use Rattle.leg_place.proofs.OnSites.{IsWide}
use Rattle.leg_place.proofs.OnRows.{whole_on_row, sites_on_row, on_row_of_sites, on_no_row}
use Rattle.leg_place.proofs.sites.is_on_some_row.Goals as goal

pub returns-then-is_whole : goal.returns-then-is_whole
returns-then-is_whole g c =
    let design = c.args.design.now in
    let master = c.args.master.now in
    let place = c.args.place.now in
    let site = c.in-Some.site.now in
    let lookup = c.in-Some.ensures.lookup in
    let sites_are : c.sites.result.now ≡ design.library.sites = c.sites.ensures ∙ ap (λ l. l.sites) c.library.ensures.is in
    let there : slice_get design.library.sites c.args.number ≡ Some site =
    rw (← sites_are) (slice_get_read c.sites.result.now _ c.args.number site refl lookup.3.0 lookup.1) in
    let size_is : c.master.inside.size ≡ master.size = ap (λ m. m.size) c.master.view_is in
    let symmetric_is : c.master.inside.y_symmetric ≡ master.y_symmetric = ap (λ m. m.y_symmetric) c.master.view_is in
    let box_is : c.placed_size-rect.result ≡ placed_box master.size place = c.placed_size-rect.ensures.is ∙ ap (λ size. placed_box size place) size_is in
    let rect = c.placed_size-rect.ensures.proper in
    let proper : IsWide c.placed_size-rect.result = record { wide = rect.wide; high = rect.high } in
    let proper_box : IsWide (placed_box master.size place) = rw box_is at proper in
    let area = c.is_whole.ensures.size in
    let whole = rw box_is at (c.is_whole.ensures.whole.0 c.if-is_whole.true) in
    let test = rw (box_is, symmetric_is) at c.has_sites.ensures in (
      λ t. on_row_of_sites design master c.args.number place site there area proper_box c.args.rows.now c.requires.rows whole (test.0 t),
      λ some. test.1 (sites_on_row design master c.args.number place site there area proper_box c.args.rows.now c.requires.rows some),
    )

pub returns-else-is_whole : goal.returns-else-is_whole
returns-else-is_whole g c =
    let design = c.args.design.now in
    let master = c.args.master.now in
    let place = c.args.place.now in
    let site = c.in-Some.site.now in
    let lookup = c.in-Some.ensures.lookup in
    let sites_are : c.sites.result.now ≡ design.library.sites = c.sites.ensures ∙ ap (λ l. l.sites) c.library.ensures.is in
    let there : slice_get design.library.sites c.args.number ≡ Some site =
    rw (← sites_are) (slice_get_read c.sites.result.now _ c.args.number site refl lookup.3.0 lookup.1) in
    let size_is : c.master.inside.size ≡ master.size = ap (λ m. m.size) c.master.view_is in
    let box_is : c.placed_size-rect.result ≡ placed_box master.size place = c.placed_size-rect.ensures.is ∙ ap (λ size. placed_box size place) size_is in
    let rect = c.placed_size-rect.ensures.proper in
    let proper : IsWide c.placed_size-rect.result = record { wide = rect.wide; high = rect.high } in
    let proper_box : IsWide (placed_box master.size place) = rw box_is at proper in
    let test = rw box_is at c.is_whole.ensures.whole in (
      λ t. absurd (false≢true (sym c.if-is_whole.false ∙ t)),
      λ some. test.1 (whole_on_row design master c.args.number place site there c.is_whole.ensures.size proper_box c.args.rows.now c.requires.rows some),
    )

pub returns-in-None : goal.returns-in-None
returns-in-None g c =
    let design = c.args.design.now in
    let sites_are : c.sites.result.now ≡ design.library.sites = c.sites.ensures ∙ ap (λ l. l.sites) c.library.ensures.is in
    let beyond : length design.library.sites ≤ c.args.number = rw (← sites_are) c.in-None.ensures.lookup.3 in
    (λ t. absurd (false≢true t), λ some. absurd (on_no_row design c.args.master.now c.args.number c.args.place.now beyond some))
