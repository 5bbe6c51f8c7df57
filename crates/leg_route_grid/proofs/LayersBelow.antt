-- Routing layers that stand below a layer.
use Rattle.std.proofs.Common.{◌≡◌, ℕ, ◌<◌, inl, inr, true, List, AllPairs, get_or, arith}
use Rattle.std.specs.Prelude.{ltb}
use Rattle.std.specs.List.Sorted.{IsPartitionedBy}
use Rattle.std.proofs.lemmas.Bool.{cases_eq}
use Rattle.leg_route_grid.specs.declared.layers.RoutingLayer.{RoutingLayer}

-- those below a layer stand first
pub below_first : (layers : List RoutingLayer) → AllPairs (λ a b. a.number < b.number) layers → (number : ℕ)
    → IsPartitionedBy (λ (own : RoutingLayer). ltb own.number number) layers
below_first layers rising number i j d upto within test = elim (cases_eq i j) [
  | inl same ↦ rw same test
  | inr differ ↦ let more = rising i j d (omega (arith, upto, differ)) within in lower (get_or layers i d).number (get_or layers j d).number number more test
] where
  lower : (a b c : ℕ) → a < b → ltb b c ≡ true → ltb a c ≡ true
  lower a b c less test = grind arith
