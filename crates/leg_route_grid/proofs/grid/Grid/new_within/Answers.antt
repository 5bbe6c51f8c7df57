use Rattle.std.proofs.Common.{◌≡◌, ◌*◌, ◌≤◌, length, true≢false, rules, refl, sym, ap, ◌∙◌, arith}
use Rattle.leg_lib_records.specs.Records.{LibraryModel}
use Rattle.leg_route_grid.specs.Steps.Grid.{AreTracks, AreViasFrom}
use Rattle.leg_route_grid.specs.Steps.LayerList.{routing_from}
use Rattle.leg_route_grid.proofs.GridValues.{xs_within, ys_within}
use Rattle.leg_route_grid.proofs.RoutingLayers.{layers_are}
use Rattle.leg_route_grid.proofs.GridParts.{not_beyond, beyond}
use Rattle.leg_route_grid.proofs.grid.Grid.new_within.Goals as goal

pub returns-then-not-fits-clause-large : goal.returns-then-not-fits-clause-large
returns-then-not-fits-clause-large g c large =
    let layers_is : c.in_ok-layers.layers.items ≡ routing_from 0 c.args.design.now.library.layers =
    c.in_ok-layers.ensures ∙ ap (routing_from 0) c.layers.ensures.is ∙ ap (λ (l : LibraryModel). routing_from 0 l.layers) c.library-library.ensures.is in
    let layers : c.len.result ≡ length c.in_ok-layers.layers.items = search rules in
    let rows : c.len-2.result ≡ length c.in_ok-ys.ys.items = search rules in
    let columns : c.len-3.result ≡ length c.in_ok-xs.xs.items = search rules in
    beyond c.args.design.now c.in_ok-xs.xs.items c.in_ok-ys.ys.items c.in_ok-xs.ensures c.in_ok-ys.ensures c.args.limit c.in_ok-layers.layers.items layers_is
    (λ few. true≢false (sym (c.if-not-fits.ensures.1 (rw (layers, rows, columns) few))))

pub all_track_marks-requires-clause-xs : goal.all_track_marks-requires-clause-xs
all_track_marks-requires-clause-xs g c = rw c.deref-2.ensures.value c.in_ok-xs.ensures.increasing

pub all_track_marks-requires-clause-ys : goal.all_track_marks-requires-clause-ys
all_track_marks-requires-clause-ys g c = rw c.deref-3.ensures.value c.in_ok-ys.ensures.increasing

pub vias_between-requires : goal.vias_between-requires
vias_between-requires g c = rw (c.deref-4.ensures.value, c.in_ok-layers.ensures, c.layers.ensures.is) (layers_are c.library-library.result.now)

pub invariant_of-result : goal.invariant_of-result
invariant_of-result g c =
    let layers_is : c.in_ok-layers.layers.items ≡ routing_from 0 c.args.design.now.library.layers =
    c.in_ok-layers.ensures ∙ ap (routing_from 0) c.layers.ensures.is ∙ ap (λ (l : LibraryModel). routing_from 0 l.layers) c.library-library.ensures.is in
    let layers : c.len.result ≡ length c.in_ok-layers.layers.items = search rules in
    let rows : c.len-2.result ≡ length c.in_ok-ys.ys.items = search rules in
    let columns : c.len-3.result ≡ length c.in_ok-xs.xs.items = search rules in
    let few : c.len.result * c.len-2.result * c.len-3.result ≤ c.args.limit = c.if-not-fits.ensures.0 refl in
    let tracks : AreTracks c.args.design.now c.deref.result.now c.deref-2.result.now c.deref-3.result.now c.in_ok-tracks.tracks.items =
    c.in_ok-tracks.ensures in
    let vias : AreViasFrom c.library-library.result.now c.deref-4.result.now (length c.deref-4.result.now) c.in_ok-vias.vias.items = c.in_ok-vias.ensures in
    record {
      layers_are = rw layers_is (layers_are c.args.design.now.library);
      xs_are = c.in_ok-xs.ensures;
      ys_are = c.in_ok-ys.ensures;
      xs_within = xs_within c.args.design.now c.in_ok-xs.xs.items c.tracks.ensures.proper c.in_ok-xs.ensures;
      ys_within = ys_within c.args.design.now c.in_ok-ys.ys.items c.tracks.ensures.proper c.in_ok-ys.ensures;
      few = (let kept : length c.in_ok-layers.layers.items * length c.in_ok-ys.ys.items * length c.in_ok-xs.xs.items ≤ c.args.limit = rw
          (layers, rows, columns) at few in omega (arith, kept, c.requires));
      tracks_are = rw (c.deref.ensures.value, c.deref-2.ensures.value, c.deref-3.ensures.value) at tracks;
      vias_are = rw (c.deref-4.ensures.value, c.library-library.ensures.is) at vias;
    }

pub returns-clause-fits : goal.returns-clause-fits
returns-clause-fits g c =
    let layers_is : c.in_ok-layers.layers.items ≡ routing_from 0 c.args.design.now.library.layers =
    c.in_ok-layers.ensures ∙ ap (routing_from 0) c.layers.ensures.is ∙ ap (λ (l : LibraryModel). routing_from 0 l.layers) c.library-library.ensures.is in
    let layers : c.len.result ≡ length c.in_ok-layers.layers.items = search rules in
    let rows : c.len-2.result ≡ length c.in_ok-ys.ys.items = search rules in
    let columns : c.len-3.result ≡ length c.in_ok-xs.xs.items = search rules in
    let few : c.len.result * c.len-2.result * c.len-3.result ≤ c.args.limit = c.if-not-fits.ensures.0 refl in
    not_beyond c.args.design.now c.in_ok-xs.xs.items c.in_ok-ys.ys.items c.in_ok-xs.ensures c.in_ok-ys.ensures c.args.limit
    c.in_ok-layers.layers.items layers_is
    (λ many. true≢false (sym (c.if-are_too_many.ensures.1 (rw c.tracks.ensures.is many)))) (rw (layers, rows, columns) at few)
