-- Which vias are looked for between two routing layers: default ones alone, or all.
use Rattle.std.specs.Prelude.{◌≡◌, ℕ, ◌+◌, ◌<◌, Bool, true, false, IsTrue, List, length, Contains, Option, Some, MatchOption, slice_get}
use Rattle.leg_lib_records.specs.Joins.{is_routing}
use Rattle.leg_lib_records.specs.GoodVia.{uses_of}
use Rattle.leg_lib_records.specs.Records.{LibraryModel, ViaModel}
use Rattle.leg_route_grid.specs.declared.layers.RoutingLayer.{RoutingLayer}
use Rattle.leg_rules.specs.Route.Between.{JoinsLayers, JoinsByDefault, IsFirst}

-- the via joins the layers, and is a default via if only such are looked for
abbrev pub JoinsNodes : LibraryModel → ℕ → ℕ → Bool → ViaModel → Type 0
JoinsNodes library low high true via = JoinsByDefault library low high via
JoinsNodes library low high false via = JoinsLayers library low high via

-- the first via that does, or none does
abbrev pub IsFirstIfAny : LibraryModel → ℕ → ℕ → Bool → Option ℕ → Type 0
IsFirstIfAny library low high only_default first =
    MatchOption first ((via : ViaModel) → Contains library.vias via → ¬ JoinsNodes library low high only_default via)
    (λ k. IsFirst (JoinsNodes library low high only_default) library.vias k)

-- two routing layers, the first one below the second
pub record AreRouting (library : LibraryModel) (low high : ℕ) : Type 0 where
  pub low_routes : IsTrue (is_routing (uses_of library.layers) low)
  pub high_routes : IsTrue (is_routing (uses_of library.layers) high)
  pub less : low < high

-- the via joins routing layer k and the next one above, and is a default via if only such are looked for
pub record JoinsAt (library : LibraryModel) (layers : List RoutingLayer) (only_default : Bool) (via : ViaModel) (k : ℕ) : Type 0 where
  pub low : RoutingLayer
  pub high : RoutingLayer
  pub at_low : slice_get layers k ≡ Some low
  pub at_high : slice_get layers (k + 1) ≡ Some high
  pub joins : JoinsNodes library low.number high.number only_default via

-- the first of the first n vias of which it holds, or it holds of none of these
abbrev pub IsFirstBelow : (ViaModel → Type 0) → List ViaModel → ℕ → Option ℕ → Type 0
IsFirstBelow Holds vias n first =
    MatchOption first ((j : ℕ) (via : ViaModel) → j < n → slice_get vias j ≡ Some via → ¬ Holds via) (λ k. IsFirst Holds vias k)

-- for each of the routing layers the first of the first n vias that joins it and the next one above, if one does
pub record AreFirstVias (library : LibraryModel) (layers : List RoutingLayer) (only_default : Bool) (n : ℕ) (firsts : List (Option ℕ)) : Type 0 where
  pub count : length firsts ≡ length layers
  pub each : (k : ℕ) (first : Option ℕ) → slice_get firsts k ≡ Some first → IsFirstBelow (λ via. JoinsAt library layers only_default via k) library.vias n first
