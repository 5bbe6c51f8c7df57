-- A component is off its sites where no row holds it.
use Rattle.std.proofs.Common.{◌≡◌, ◌<◌, length, slice_get, Some, refl, sym, ap, subst, ◌∙◌}
use Rattle.std.proofs.lemmas.Bool.{false≢true}
use Rattle.std.proofs.lemmas.Option.{slice_get_read}
use Rattle.leg_lemmas.proofs.Places.{all_at}
use Rattle.leg_geom.specs.declared.place.Place.{Place}
use Rattle.leg_design_records.specs.declared.records.Status.{Status}
use Rattle.leg_design_records.specs.declared.records.Status.TheVariants.{Unplaced, Placed, Fixed, Cover}
use Rattle.leg_design_records.specs.WellFormedParts.{IsComponent, IsPlaced, IsPosition}
use Rattle.leg_place.proofs.OnRows.{off_site_test, on_no_site}
use Rattle.leg_place.proofs.sites.is_off_site.Goals as goal

position_of : (status : Status) (place : Place) → IsPlaced status (Some place) → IsPosition place.at
position_of Unplaced place placed = absurd placed
position_of Placed place placed = placed
position_of Fixed place placed = placed
position_of Cover place placed = placed

pub is_on_some_row-requires-clause-at : goal.is_on_some_row-requires-clause-at
is_on_some_row-requires-clause-at g c =
    let design = c.args.design.now in
    let component = c.index-components-number.result in
    let within : c.args.number < length c.components.result.now = rw c.components.ensures.is c.requires.there in
    let there : slice_get design.components c.args.number ≡ Some component =
    rw (← c.components.ensures.is) (slice_get_read c.components.result.now _ c.args.number component refl within c.index-components-number.is) in
    let placed = (all_at (IsComponent design.library) design.components c.args.number component c.components.ensures.proper.components.each there).placed in
    position_of component.status c.in-Some.place (subst (IsPlaced component.status) c.in-Some.is placed)

pub returns-in-Some-site : goal.returns-in-Some-site
returns-in-Some-site g c =
    let design = c.args.design.now in
    let component = c.index-components-number.result in
    let master = c.index-masters-component.result in
    let within : c.args.number < length c.components.result.now = rw c.components.ensures.is c.requires.there in
    let there : slice_get design.components c.args.number ≡ Some component =
    rw (← c.components.ensures.is) (slice_get_read c.components.result.now _ c.args.number component refl within c.index-components-number.is) in
    let below = (all_at (IsComponent design.library) design.components c.args.number component c.components.ensures.proper.components.each there).master in
    let masters_are : c.masters.result.now ≡ design.library.masters = c.masters.ensures.is ∙ ap (λ library. library.masters) c.library.ensures.is in
    let below_read : component.master < length c.masters.result.now = rw masters_are below in
    let is_master : slice_get design.library.masters component.master ≡ Some master =
    rw (← masters_are) (slice_get_read c.masters.result.now _ component.master master refl below_read c.index-masters-component.is) in
    let site : master.site ≡ Some c.in-Some-site.site = sym (ap (λ m. m.site) c.master.view_is) ∙ c.in-Some-site.is in
    off_site_test design c.args.number component there master is_master c.in-Some.place c.in-Some-site.site c.is_on_some_row.result c.in-Some.is site
    c.is_on_some_row.ensures

pub returns-in-None : goal.returns-in-None
returns-in-None g c =
    let design = c.args.design.now in
    let component = c.index-components-number.result in
    let master = c.index-masters-component.result in
    let within : c.args.number < length c.components.result.now = rw c.components.ensures.is c.requires.there in
    let there : slice_get design.components c.args.number ≡ Some component =
    rw (← c.components.ensures.is) (slice_get_read c.components.result.now _ c.args.number component refl within c.index-components-number.is) in
    let below = (all_at (IsComponent design.library) design.components c.args.number component c.components.ensures.proper.components.each there).master in
    let masters_are : c.masters.result.now ≡ design.library.masters = c.masters.ensures.is ∙ ap (λ library. library.masters) c.library.ensures.is in
    let below_read : component.master < length c.masters.result.now = rw masters_are below in
    let is_master : slice_get design.library.masters component.master ≡ Some master =
    rw (← masters_are) (slice_get_read c.masters.result.now _ component.master master refl below_read c.index-masters-component.is) in (
      λ t. absurd (false≢true t),
      λ off. absurd (on_no_site design c.args.number component there master is_master
          (sym (ap (λ m. m.site) c.master.view_is) ∙ c.in-None.is) off),
    )
