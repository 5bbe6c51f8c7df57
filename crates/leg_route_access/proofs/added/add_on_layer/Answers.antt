use Rattle.std.proofs.Common.{◌≡◌, None, Some, true, pos, ◌+ℤ◌, ◌-ℤ◌, w64, to_z, of_z, refl, sym, ap, ◌∙◌}
use Rattle.std.proofs.lemmas.Bool.Decides.{Decides-eqb}
use Rattle.std.proofs.lemmas.Int.{to_z-of_z}
use Rattle.std.proofs.lemmas.Option.{same_Some}
use Rattle.leg_lib_records.specs.Records.{LibraryModel}
use Rattle.leg_design_records.specs.Records.{DesignModel}
use Rattle.leg_route_grid.specs.declared.layers.RoutingLayer.{RoutingLayer}
use Rattle.leg_route_access.specs.Steps.Reaches.{AreAlong, clear_at}
use Rattle.leg_route_access.specs.Steps.AccessUpdates.{ArePlacesNear}
use Rattle.leg_route_access.proofs.MetalReach.{distance_fits, coordinate_fits, far_fits}
use Rattle.leg_route_access.proofs.SlotsInTurn.{none_reached, rows_told, all_along}
use Rattle.leg_route_access.proofs.added.add_on_layer.Goals as goal

pub returns-in_default : goal.returns-in_default
returns-in_default g c =
    none_reached c.args.grid.now c.args.shape.now c.grid_is_sound.ensures.proper c.grid_is_sound.ensures.library c.args.k None c.in_default.ensures true true
    (all_along c.args.grid.now c.args.k c.args.shape.now.layer) c.args.slots.now refl

pub places_near-columns-requires-clause-rising : goal.places_near-columns-requires-clause-rising
places_near-columns-requires-clause-rising g c = rw c.xs.ensures.is c.xs.ensures.proper.xs_are.increasing

pub places_near-rows-requires-clause-rising : goal.places_near-rows-requires-clause-rising
places_near-rows-requires-clause-rising g c = rw c.ys.ensures.is c.ys.ensures.proper.ys_are.increasing

pub add_in_rows-requires-clause-on_layer : goal.add_in_rows-requires-clause-on_layer
add_in_rows-requires-clause-on_layer g c own there number =
    let same : own ≡ c.layer_at-own.result = same_Some own c.layer_at-own.result (sym there ∙ c.layer_at-own.ensures.is) in
    let is : c.layer_at-own.result.number ≡ c.args.shape.now.layer = sym (ap (λ (l : RoutingLayer). l.number) same) ∙ number in
    (Decides-eqb c.layer_at-own.result.number c.args.shape.now.layer).1 is

pub returns : goal.returns
returns g c =
    let grid = c.args.grid.now in
    let shape = c.args.shape.now in
    let rect = shape.rect in
    let is_rect = c.x1.ensures.proper in
    let reach = c.in-Some.reach in
    let clear = clear_at grid.design.library shape.layer in
    let own = c.layer_at-own.result in
    let along_x = c.steps_along-along_x.result in
    let along_y = c.steps_along-along_y.result in
    let along : AreAlong grid c.args.k shape.layer along_x along_y = record {
      x = λ l there number direction.
          let same : l ≡ own = same_Some l own (sym there ∙ c.layer_at-own.ensures.is) in
          c.steps_along-along_x.ensures.1 (
            sym (ap (λ (l : RoutingLayer). l.number) same) ∙ number,
            sym (ap (λ (l : RoutingLayer). l.direction) same)
                ∙ direction,
          );
      y = λ l there number direction.
          let same : l ≡ own = same_Some l own (sym there ∙ c.layer_at-own.ensures.is) in
          c.steps_along-along_y.ensures.1 (
            sym (ap (λ (l : RoutingLayer). l.number) same) ∙ number,
            sym (ap (λ (l : RoutingLayer). l.direction) same)
                ∙ direction,
          );
    } in
    let library : c.library.result.now ≡ grid.design.library = c.library.ensures.is ∙ ap (λ (d : DesignModel). d.library) (sym c.requires.of_design) in
    let reach_is : to_z w64 (of_z w64 reach) ≡ reach = to_z-of_z w64 reach (distance_fits reach c.in-Some.ensures.proper) in
    let far_is : c.far_on-far.result ≡ (reach +ℤ pos clear) =
    rw reach_is at c.far_on-far.ensures.is ∙ ap (λ (l : LibraryModel). reach +ℤ pos (clear_at l shape.layer)) library in
    let far_fits = far_fits c.far_on-far.result c.far_on-far.ensures.proper in
    let columns : ArePlacesNear grid.xs along_x (rect.x1 -ℤ (reach +ℤ pos clear))
    (rect.x2 +ℤ (reach +ℤ pos clear)) c.places_near-columns.result.0 c.places_near-columns.result.1 =
    rw (
      c.xs.ensures.is,
      c.x1.ensures.is,
      c.x2.ensures.is,
      to_z-of_z w64 rect.x1 (coordinate_fits rect.x1 is_rect.x1),
      to_z-of_z w64 rect.x2 (coordinate_fits rect.x2 is_rect.x2),
      to_z-of_z w64 c.far_on-far.result far_fits,
      far_is,
    ) at c.places_near-columns.ensures in
    let rows : ArePlacesNear grid.ys along_y (rect.y1 -ℤ (reach +ℤ pos clear))
    (rect.y2 +ℤ (reach +ℤ pos clear)) c.places_near-rows.result.0 c.places_near-rows.result.1 =
    rw (
      c.ys.ensures.is,
      c.y1.ensures.is,
      c.y2.ensures.is,
      to_z-of_z w64 rect.y1 (coordinate_fits rect.y1 is_rect.y1),
      to_z-of_z w64 rect.y2 (coordinate_fits rect.y2 is_rect.y2),
      to_z-of_z w64 c.far_on-far.result far_fits,
      far_is,
    ) at c.places_near-rows.ensures in
    rows_told grid shape c.grid_is_sound.ensures.proper c.grid_is_sound.ensures.library c.args.k
    (Some reach) c.in-Some.ensures along_x along_y along reach c.places_near-columns.result.0 c.places_near-columns.result.1
    c.places_near-rows.result.0 c.places_near-rows.result.1 refl columns rows c.args.slots.now c.add_in_rows.new.slots c.add_in_rows.ensures
