-- The via of a step up or down.
use Rattle.std.proofs.Common.{◌≡◌, ℕ, ◌<◌, ◌≤◌, ◌⊎◌, inl, inr, Option, None, Some, slice_get, refl, sym, ap, ◌∙◌, arith}
use Rattle.std.specs.Prelude.{IsSome}
use Rattle.leg_design_records.specs.Records.{DesignModel}
use Rattle.leg_rules.specs.declared.node.Node.{Node}
use Rattle.leg_route_grid.specs.declared.slot.Slot.{Slot}
use Rattle.leg_rules.specs.Route.Neighbours.{IsOver}
use Rattle.leg_route_grid.specs.Steps.Grid.{GridModel, IsDesignGrid, IsNumberOf}
use Rattle.leg_route_grid.specs.Steps.SlotRanges.{IsRoutingLayerAt, IsLayerIfAny}
use Rattle.leg_route_access.proofs.NodeSides.{via_rises}
use Rattle.leg_route_grid.proofs.GridSlots.{numbered}
use Rattle.leg_route_access.proofs.OpenSteps.{via_there}
use Rattle.leg_route_grid.proofs.SlotRanges.{one_layer}

module _ (grid : GridModel) (is_grid : IsDesignGrid grid) (via : ℕ) (a b : Node) (over : IsOver grid.design via a b) where
  a_is : (n : ℕ) × IsNumberOf grid n a
  a_is = numbered grid is_grid a over.a_is

  b_is : (n : ℕ) × IsNumberOf grid n b
  b_is = numbered grid is_grid b over.b_is

  -- the lower node lies on a routing layer
  a_at : IsRoutingLayerAt grid.layers a.layer a_is.1.k
  a_at = let lies = a_is.1.lies in record { layer = lies.layer; there = lies.there; is = sym lies.on }

  -- the grid has the via of that layer
  pub via_of_layer : (k : ℕ) → IsRoutingLayerAt grid.layers a.layer k → slice_get grid.vias k ≡ Some (Some via)
  via_of_layer k at_k =
      let number = a_is.1 in
      let s : Slot = record { layer = number.k; row = number.j; column = number.i } in
      let same : k ≡ number.k = one_layer grid.layers is_grid.layers_are.increasing a.layer k number.k at_k a_at in
      ap (slice_get grid.vias) same ∙ via_there grid a_is.0 b_is.0 via s a b is_grid number.slot number b_is.1 over

  pub layer_found : (found : Option ℕ) → IsLayerIfAny grid.layers a.layer found → IsSome found
  layer_found None none = absurd (none a_is.1.k a_at)
  layer_found (Some k) at_k = refl

module _ (design : DesignModel) (a b : Node) where
  pub goes_up : (via : ℕ) → IsOver design via a b ⊎ IsOver design via b a → a.layer < b.layer → IsOver design via a b
  goes_up via (inl up) less = up
  goes_up via (inr down) less = absurd (let more = via_rises design.library b.layer a.layer via down.via_is in omega (arith, less, more))

  pub goes_down : (via : ℕ) → IsOver design via a b ⊎ IsOver design via b a → b.layer ≤ a.layer → IsOver design via b a
  goes_down via (inl up) less = absurd (let more = via_rises design.library a.layer b.layer via up.via_is in omega (arith, less, more))
  goes_down via (inr down) less = down
