-- The vias of a library's routing layers, one after another.
use Rattle.std.proofs.Common.{◌≡◌, ℕ, ◌+◌, ◌<◌, inl, inr, IsTrue, List, [], ◌∷◌, ◌++◌, length, length-append, get_or, Option, Some, slice_get, refl, arith}
use Rattle.std.proofs.lemmas.List.{get_or_default}
use Rattle.std.proofs.lemmas.Option.{slice_get-map}
use Rattle.leg_lib_records.specs.declared.records.Direction.{Direction}
use Rattle.leg_lib_records.specs.declared.records.Layer.{Layer}
use Rattle.leg_lib_records.specs.Joins.{is_routing}
use Rattle.leg_lib_records.specs.GoodVia.{use_of, uses_of}
use Rattle.leg_lib_records.specs.Records.{LibraryModel}
use Rattle.leg_route_grid.specs.declared.layers.RoutingLayer.{RoutingLayer}
use Rattle.leg_rules.specs.Route.Tracks.{Runs}
use Rattle.leg_route_grid.specs.Steps.Grid.{AreRoutingLayers, AreViasFrom, IsViaIfAny}
use Rattle.leg_route_grid.specs.Steps.Joining.{AreRouting}
use Rattle.leg_route_grid.proofs.ListEnds.{read_pushed}

pub runs_is_routing : (library : LibraryModel) (number : ℕ) (direction : Direction) (width : _) → Runs library number direction width
    → IsTrue (is_routing (uses_of library.layers) number)
runs_is_routing library number direction width runs =
    rw (slice_get-map (λ (layer : Layer). use_of layer.kind) library.layers number, runs.there, runs.routes) refl

-- two routing layers, one next to the other
pub next_layers : (library : LibraryModel) (layers : List RoutingLayer) (k : ℕ) (d e : RoutingLayer) → AreRoutingLayers library layers → k + 1 < length layers
    → AreRouting library (get_or layers k d).number (get_or layers (k + 1) e).number
next_layers library layers k d e are within =
    let low = are.each k d (omega (arith, within)) in
    let high = are.each (k + 1) e within in
    let same : get_or layers k e ≡ get_or layers k d = get_or_default layers k e d (omega (arith, within)) in
    record {
      low_routes = runs_is_routing library _ _ _ low;
      high_routes = runs_is_routing library _ _ _ high;
      less = rw same at (are.increasing k (k + 1) e (omega arith) within);
    }

pub one_via_more : (library : LibraryModel) (layers : List RoutingLayer) (n : ℕ) (vias more : List (Option ℕ)) (via : Option ℕ)
    → AreViasFrom library layers n vias → more ≡ vias ++ via ∷ []
    → ((low high : RoutingLayer) → slice_get layers n ≡ Some low → slice_get layers (n + 1) ≡ Some high → IsViaIfAny library low.number high.number via)
    → AreViasFrom library layers (n + 1) more
one_via_more library layers n vias more via are is last = rw is (record {
  count = omega (arith, length-append vias (via ∷ []), are.count);
  each = λ k low high v at_low at_high there. elim (read_pushed vias via k v there) [
    | inl old ↦ are.each k low high v at_low at_high old.is
    | inr new ↦
        let k_is : k ≡ n = omega (arith, new.last, are.count) in
        rw (← new.is) (last low high (rw k_is at at_low) (rw k_is at at_high))
  ];
})
