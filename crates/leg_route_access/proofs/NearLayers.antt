-- Routing layers of which no metal lies on a layer.
use Rattle.std.proofs.Common.{◌≡◌, ℕ, ◌+◌, ◌-◌, ◌<◌, ◌≤◌, ◌⊎◌, inl, inr, true, false, List, All, None, Some, length, get_or, slice_get, sym, subst, ◌∙◌, arith}
use Rattle.std.specs.Prelude.{ltb}
use Rattle.std.specs.List.Sorted.{IsPartitionPoint}
use Rattle.std.proofs.lemmas.Bool.{ltb-true, ltb-false}
use Rattle.std.proofs.lemmas.List.{length-map, get_or-map}
use Rattle.std.proofs.lemmas.Option.{same_Some, slice_get_within, get_or_from_slice_get}
use Rattle.leg_lib_records.specs.declared.joins.LayerUse.{LayerUse}
use Rattle.leg_lib_records.specs.JoinLaw.{IsPart, Joins}
use Rattle.leg_lib_records.specs.GoodVia.{parts_of}
use Rattle.leg_lib_records.specs.Records.{LibraryModel, ViaModel}
use Rattle.leg_route_grid.specs.declared.layers.RoutingLayer.{RoutingLayer}
use Rattle.leg_rules.specs.Route.Between.{JoinsLayers, IsVia}
use Rattle.leg_route_grid.specs.Steps.Grid.{GridModel, IsDesignGrid}
use Rattle.leg_route_access.specs.Steps.Reaches.{ReachesShape, ReachesMetal, AreNearLayers}
use Rattle.leg_route_grid.proofs.JoinsPair.{part_of}
use Rattle.leg_route_grid.proofs.StepsAt.{some_at}

-- the via of this number joins the layers
joined_by : (library : LibraryModel) (low high via : ℕ) (said : ViaModel) → IsVia library low high via → slice_get library.vias via ≡ Some said
    → JoinsLayers library low high said
joined_by library low high via said (inl first) there =
    let P : ViaModel → Type 0 = λ v. JoinsLayers library low high v in
    subst P (same_Some first.via said (sym first.there ∙ there)) first.holds.joins
joined_by library low high via said (inr other) there =
    let P : ViaModel → Type 0 = λ v. JoinsLayers library low high v in
    subst P (same_Some other.first.via said (sym other.first.there ∙ there)) other.first.holds

-- its shapes lie on no layer below or above both
shapes_between : (uses : List LayerUse) (said : ViaModel) (low cut high layer : ℕ) → Joins uses (parts_of said.shapes) low cut high
    → (layer < low) ⊎ (high < layer) → All (ReachesShape None layer) said.shapes
shapes_between uses said low cut high layer joins out k shape within on = absurd (by out part) where
  there : k < length (parts_of said.shapes)
  there = rw (length-map said.shapes part_of) within

  part : IsPart low cut high (part_of (get_or said.shapes k shape))
  part = rw (get_or-map part_of said.shapes k shape (part_of shape) within) at (joins.each k (part_of shape) there)

  by : (layer < low) ⊎ (high < layer) → IsPart low cut high (part_of (get_or said.shapes k shape)) → ⊥
  by (inl below) (inl at) = omega (arith, below, at, on, joins.above, joins.below)
  by (inl below) (inr (inl at, holds)) = omega (arith, below, at, on, joins.above, joins.below)
  by (inl below) (inr (inr at, holds)) = omega (arith, below, at, on, joins.above, joins.below)
  by (inr above) (inl at) = omega (arith, above, at, on, joins.above, joins.below)
  by (inr above) (inr (inl at, holds)) = omega (arith, above, at, on, joins.above, joins.below)
  by (inr above) (inr (inr at, holds)) = omega (arith, above, at, on, joins.above, joins.below)

module _ (grid : GridModel) (is_grid : IsDesignGrid grid) (layer : ℕ) where
  -- the routing layer at this place lies above the layer, or it and the next one lie below
  pub record IsOff (k : ℕ) : Type 0 where
    pub off : (own : RoutingLayer) → slice_get grid.layers k ≡ Some own → (layer < own.number) ⊎ (own.number < layer)
    pub next_off : (own high : RoutingLayer) → slice_get grid.layers k ≡ Some own → slice_get grid.layers (k + 1) ≡ Some high
        → (layer < own.number) ⊎ (high.number < layer)

  none_off : (k : ℕ) → IsOff k → ReachesMetal grid k layer None
  none_off k is_off = record {
    proper = tt;
    line = λ own there same. elim (is_off.off own there) [ inl below ↦ absurd (omega (arith, below, same)) | inr above ↦ absurd (omega (arith, above, same)) ];
    via = λ via said high at_high at_via there.
        let within = slice_get_within grid.layers (k + 1) high at_high in
        let own = some_at grid.layers k (omega (arith, within)) in
        let joins =
        joined_by grid.design.library own.value.number high.number via said
        (is_grid.vias_are.each k own.value high (Some via) own.there at_high at_via) there in
        shapes_between _ said own.value.number joins.cut high.number layer joins.joins (is_off.next_off own.value high own.there at_high);
  }

  module _ (point : ℕ) (bound : point ≤ length grid.layers)
      (is_point : IsPartitionPoint (λ (own : RoutingLayer). ltb own.number layer ≡ true)
      (λ (own : RoutingLayer). ltb own.number layer ≡ false) grid.layers point) where
    below : (k : ℕ) (own : RoutingLayer) → slice_get grid.layers k ≡ Some own → k < point → own.number < layer
    below k own there early = let test = rw (get_or_from_slice_get grid.layers k own own there) at (is_point.0 k own (omega (arith, early)) early) in
        ltb-true own.number layer test

    least : (k : ℕ) (own : RoutingLayer) → slice_get grid.layers k ≡ Some own → point ≤ k → layer ≤ own.number
    least k own there late = let test =
        rw (get_or_from_slice_get grid.layers k own own there) at (is_point.1 k own late (slice_get_within grid.layers k own there)) in
        ltb-false own.number layer test

    -- those behind the first that isn't below
    later : (k : ℕ) (own : RoutingLayer) → slice_get grid.layers k ≡ Some own → point < k → layer < own.number
    later k own there late =
        let within = slice_get_within grid.layers k own there in
        let first = some_at grid.layers point (omega (arith, within, late)) in
        let rises = is_grid.layers_are.increasing point k own late within in
        let rising : first.value.number < own.number =
        rw (get_or_from_slice_get grid.layers point first.value own first.there, get_or_from_slice_get grid.layers k own own there) at rises in
        let from = least point first.value first.there (omega arith) in
        omega (arith, rising, from)

    pub near_layers : (first end : ℕ) → first ≡ point - 1 → end ≤ length grid.layers → (end ≡ point + 1) ⊎ (end ≡ length grid.layers)
        → AreNearLayers grid layer first end
    near_layers first end first_is within end_is = record {
      within = within;
      before = λ k early. none_off k (record {
        off = λ own there. inr (below k own there (omega (arith, early, first_is)));
        next_off = λ own high there at_high. inr (below (k + 1) high at_high (omega (arith, early, first_is)));
      });
      behind = λ k late. none_off k (record {
        off = λ own there. inl (beyond k own there late end_is);
        next_off = λ own high there at_high. inl (beyond k own there late end_is);
      });
    } where
      beyond : (k : ℕ) (own : RoutingLayer) → slice_get grid.layers k ≡ Some own → end ≤ k → (end ≡ point + 1) ⊎ (end ≡ length grid.layers) → layer < own.number
      beyond k own there late (inl is) = later k own there (omega (arith, late, is))
      beyond k own there late (inr is) = absurd (let within = slice_get_within grid.layers k own there in omega (arith, within, late, is))
