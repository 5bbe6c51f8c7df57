use Rattle.std.proofs.Common.{◌≡◌, ◌↔◌, List, All, Some, slice_get, length, refl, sym, ap, subst, ◌∙◌, arith}
use Rattle.std.proofs.lemmas.Option.{slice_get_read, slice_get_within, same_Some}
use Rattle.leg_lib_records.specs.declared.records.Shape.{Shape}
use Rattle.leg_lib_records.specs.Records.{LibraryModel, ViaModel}
use Rattle.leg_wire_spacing.specs.Access.{Admits, alone}
use Rattle.leg_route_access.proofs.OpenVias.{IsOpenShape, via_is_open}
use Rattle.leg_route_access.proofs.via_patches.via_beside.Goals as goal

pub returns-in-Some : goal.returns-in-Some
returns-in-Some g c said there net =
    let read : slice_get c.vias.result.now c.args.via ≡ Some c.in-Some.via.now =
    slice_get_read c.vias.result.now (length c.vias.result.now) c.args.via c.in-Some.via.now refl c.in-Some.ensures.lookup.3.0 c.in-Some.ensures.lookup.1 in
    let vias : c.vias.result.now ≡ c.args.design.now.library.vias = c.vias.ensures.is ∙ ap (λ (l : LibraryModel). l.vias) c.library.ensures.is in
    let same : c.in-Some.via.now ≡ said = same_Some _ _ (sym read ∙ ap (λ (v : List ViaModel). slice_get v c.args.via) vias ∙ there) in
    let shapes : c.as_slice.result.now ≡ said.shapes =
    c.as_slice.ensures ∙ ap (λ (v : ViaModel). v.shapes) c.via.view_is ∙ ap (λ (v : ViaModel). v.shapes) same in
    let P : List Shape → Type 0 =
    λ shapes. Admits c.patches_beside.result net ↔ All (IsOpenShape c.args.design.now (alone c.args.shape.now) net c.args.at.now) shapes in
    let all = subst P shapes (c.patches_beside.ensures net) in
    let each = via_is_open c.args.design.now (alone c.args.shape.now) net c.args.at.now c.args.via said there in
    (λ admits. each.0 (all.0 admits), λ is_open. all.1 (each.1 is_open))

pub returns-in-None : goal.returns-in-None
returns-in-None g c said there =
    let vias : c.vias.result.now ≡ c.args.design.now.library.vias = c.vias.ensures.is ∙ ap (λ (l : LibraryModel). l.vias) c.library.ensures.is in
    let past = c.in-None.ensures.lookup.3 in
    let within = slice_get_within c.args.design.now.library.vias c.args.via said there in
    absurd (omega (arith, ap (λ (v : List ViaModel). length v) vias, past, within))
