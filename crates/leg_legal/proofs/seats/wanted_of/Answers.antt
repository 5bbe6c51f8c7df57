-- What the component, its macro and its site say.
use Rattle.std.proofs.Common.{◌≡◌, ◌<◌, ◌/◌, length, slice_get, Some, unsigned_abs, refl, sym, ap, ◌∙◌}
use Rattle.std.proofs.lemmas.Option.{slice_get_within, slice_get_read}
use Rattle.leg_rules.specs.Legalise.Places.{orient_if_placed}
use Rattle.leg_design_records.proofs.ComponentMacro.{component_read, master_read}
use Rattle.leg_legal.proofs.BestSeat.{site_inside, wanted_is}
use Rattle.leg_legal.proofs.seats.wanted_of.Goals as goal

pub returns : goal.returns
returns g c =
    let design = c.args.design.now in
    let component = c.index-components-number.result in
    let master = c.index-masters-component.result in
    let m = c.requires.movable in
    let inside : c.args.number < length design.components = slice_get_within design.components c.args.number m.component m.there in
    let within : c.args.number < length c.components.result.now = rw c.components.ensures.is inside in
    let there : slice_get design.components c.args.number ≡ Some component =
    component_read design c.args.number component c.components.result.now c.components.ensures.is within c.index-components-number.is in
    let is_master : slice_get design.library.masters component.master ≡ Some master =
    master_read design c.args.number component c.components.ensures.proper there c.masters.result.now
    (c.masters.ensures.is ∙ ap (λ library. library.masters) c.library.ensures.is) master c.index-masters-component.is in
    let number = c.unwrap-site_number.result in
    let same : master.site ≡ Some number = sym (ap (λ m. m.site) c.master.view_is) ∙ c.unwrap-site_number.ensures in
    let site = c.index-sites-site_number.result in
    let sites_are : c.sites.result.now ≡ design.library.sites = c.sites.ensures ∙ ap (λ library. library.sites) c.library-2.ensures.is in
    let below : number < length design.library.sites = site_inside design c.args.number m c.requires.suited component there master is_master number same in
    let below_read : number < length c.sites.result.now = rw sites_are below in
    let is_site : slice_get design.library.sites number ≡ Some site =
    rw (← sites_are) (slice_get_read c.sites.result.now _ number site refl below_read c.index-sites-site_number.is) in
    wanted_is design c.args.number m c.requires.suited component there master is_master number same site is_site c.wanted_with.ensures.area
    c.wanted_with.ensures.has_area
    c.wanted_with.result
    (c.wanted_with.ensures.is
    ∙ (λ i. record {
      start = c.start_of.ensures i;
      site = number;
      site_width = site.size.width;
      many = unsigned_abs master.size.width / unsigned_abs site.size.width;
      orient = orient_if_placed component.place;
      y_symmetric = master.y_symmetric;
    }))
