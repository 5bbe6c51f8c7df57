-- The routing layers of a library, one after another.
use Rattle.std.proofs.Common.{◌≡◌, ℕ, suc, zero, ◌+◌, ◌<◌, inl, inr, ℤ, List, [], ◌∷◌, ◌++◌, length, count_by, is_some, All, AllPairs, Contains, Some, slice_get, get_or, if◌then◌else◌, refl, sym, ◌∙◌, arith}
use Rattle.std.proofs.lemmas.Option.{none-some, same_Some}
use Rattle.std.proofs.lemmas.List.Elements.{Contains-get_or, Contains-append_left, Contains-append_right, Contains-append_cases}
use Rattle.std.proofs.lemmas.List.Sums.{sum_by-cons}
use Rattle.std.proofs.lemmas.List.Kept.{AllPairs-cons}
use Rattle.leg_lib_records.specs.declared.records.Direction.{Direction}
use Rattle.leg_lib_records.specs.declared.records.LayerKind.{LayerKind}
use Rattle.leg_lib_records.specs.declared.records.LayerKind.TheVariants.{Routing, Cut, Other}
use Rattle.leg_lib_records.specs.declared.records.Layer.{Layer}
use Rattle.leg_lib_records.specs.Records.{LibraryModel}
use Rattle.leg_design_records.specs.Layers.{wire_width}
use Rattle.leg_route_grid.specs.declared.layers.RoutingLayer.{RoutingLayer}
use Rattle.leg_route_grid.specs.Steps.Grid.{AreRoutingLayers}
use Rattle.leg_route_grid.specs.Steps.LayerList.{routing_layer_at, routing_from}

-- r is a routing layer among these, of which the first is number n
record IsAmong (n : ℕ) (layers : List Layer) (r : RoutingLayer) : Type 0 where
  pub k : ℕ
  pub layer : Layer
  pub there : slice_get layers k ≡ Some layer
  pub number : r.number ≡ n + k
  pub routes : layer.kind ≡ Routing r.direction r.width

only : (n : ℕ) (kind : LayerKind) (r : RoutingLayer) → Contains (routing_layer_at n kind) r → (r.number ≡ n) × (kind ≡ Routing r.direction r.width)
only n (Routing direction width) r there = by there.0 there.1 there.2 where
  by : (k : ℕ) (within : k < length (routing_layer_at n (Routing direction width))) → get_or (routing_layer_at n (Routing direction width)) k r ≡ r
      → (r.number ≡ n) × (Routing direction width ≡ Routing r.direction r.width)
  by zero within is = rw (← is) (refl, refl)
  by (suc k) within is = absurd (omega (arith, within))
only n Cut r there = absurd (omega (arith, there.1))
only n Other r there = absurd (omega (arith, there.1))

each_from : (n : ℕ) (layers : List Layer) (r : RoutingLayer) → Contains (routing_from n layers) r → IsAmong n layers r
unfolding routing_from
each_from n [] r there = absurd (omega (arith, there.1))
each_from n (layer ∷ layers) r there = elim (Contains-append_cases (routing_layer_at n layer.kind) (routing_from (suc n) layers) r there) [
  | inl here ↦ let is = only n layer.kind r here in record { k = 0; layer = layer; there = refl; number = omega (arith, is.0); routes = is.1 }
  | inr later ↦ let is = each_from (suc n) layers r later in
      record { k = suc is.k; layer = is.layer; there = is.there; number = omega (arith, is.number); routes = is.routes }
]

all_from : (n : ℕ) (layers : List Layer) (k : ℕ) (layer : Layer) (direction : Direction) (width : ℤ) → slice_get layers k ≡ Some layer
    → layer.kind ≡ Routing direction width
    → Contains (routing_from n layers) (record { number = n + k; direction = direction; width = width })
unfolding routing_from
all_from n [] k layer direction width there routes = absurd (none-some layer there)
all_from n (first ∷ layers) zero layer direction width there routes =
    let same : first ≡ layer = same_Some first layer there in
    let kind : first.kind ≡ Routing direction width = rw same routes in
    let number : n + 0 ≡ n = omega arith in
    Contains-append_left (routing_layer_at n first.kind) (routing_from (suc n) layers) _ (rw (kind, number) (0, omega arith, refl))
all_from n (first ∷ layers) (suc k) layer direction width there routes =
    let number : n + suc k ≡ suc n + k = omega arith in
    Contains-append_right (routing_layer_at n first.kind) (routing_from (suc n) layers) _
    (rw number (all_from (suc n) layers k layer direction width there routes))

-- a routing layer before those above it
below_rest : (n : ℕ) (kind : LayerKind) (rest : List RoutingLayer) → All (λ r. n < r.number) rest → AllPairs (λ a b. a.number < b.number) rest
    → AllPairs (λ a b. a.number < b.number) (routing_layer_at n kind ++ rest)
below_rest n (Routing direction width) rest above rising =
    AllPairs-cons (λ a b. a.number < b.number) (record { number = n; direction = direction; width = width }) rest above rising
below_rest n Cut rest above rising = rising
below_rest n Other rest above rising = rising

rising_from : (n : ℕ) (layers : List Layer) → AllPairs (λ a b. a.number < b.number) (routing_from n layers)
unfolding routing_from
rising_from n [] = λ i j d before within. absurd (omega (arith, within))
rising_from n (layer ∷ layers) =
    below_rest n layer.kind (routing_from (suc n) layers)
    (λ k d within. let is = each_from (suc n) layers _ (Contains-get_or (routing_from (suc n) layers) k d within) in omega (arith, is.number))
    (rising_from (suc n) layers)

count_here : (n : ℕ) (kind : LayerKind) (rest : List RoutingLayer) (count : ℕ) → length rest ≡ count
    → length (routing_layer_at n kind ++ rest) ≡ (if is_some (wire_width kind) then 1 else 0) + count
count_here n (Routing direction width) rest count is = omega (arith, is)
count_here n Cut rest count is = omega (arith, is)
count_here n Other rest count is = omega (arith, is)

pub count_from : (n : ℕ) (layers : List Layer) → length (routing_from n layers) ≡ count_by (λ layer. is_some (wire_width layer.kind)) layers
unfolding routing_from
count_from n [] = refl
count_from n (layer ∷ layers) =
    count_here n layer.kind (routing_from (suc n) layers) (count_by (λ layer. is_some (wire_width layer.kind)) layers) (count_from (suc n) layers)
    ∙ sym (sum_by-cons (λ (layer : Layer). if is_some (wire_width layer.kind) then 1 else 0) layer layers)

pub layers_are : (library : LibraryModel) → AreRoutingLayers library (routing_from 0 library.layers)
layers_are library = record {
  increasing = rising_from 0 library.layers;
  each = λ k d within.
      let is = each_from 0 library.layers _ (Contains-get_or (routing_from 0 library.layers) k d within) in
      let number : (get_or (routing_from 0 library.layers) k d).number ≡ is.k = omega (arith, is.number) in
      record { layer = is.layer; there = rw number is.there; routes = is.routes };
  all = λ number direction width runs.
      let is : 0 + number ≡ number = omega arith in
      rw is at (all_from 0 library.layers number runs.layer direction width runs.there runs.routes);
}
