-- The three layers that the parts of a good via join, in facts (lefdef's own rule).
use Rattle.std.specs.Prelude.{◌≡◌, ℕ, ◌<◌, ◌⊎◌, pos, ◌<ℤ◌, false, List, IsTrue}
use Rattle.std.specs.List.{All, Any}
use Rattle.leg_geom.specs.Plane.{RectModel}
use Rattle.leg_lib_records.specs.declared.joins.LayerUse.{LayerUse}
use Rattle.leg_lib_records.specs.declared.joins.ViaPart.{ViaPart}
use Rattle.leg_lib_records.specs.Joins.{is_routing, is_cut}

-- a part lies on this layer
abbrev pub IsUsed : List ViaPart → ℕ → Type 0
IsUsed parts number = Any (λ part. part.layer ≡ number) parts

-- the point 0 0 lies inside the rectangle, and not on its border
pub record HoldsOrigin (r : RectModel) : Type 0 where
  pub left : r.x1 <ℤ pos 0
  pub right : pos 0 <ℤ r.x2
  pub bottom : r.y1 <ℤ pos 0
  pub top : pos 0 <ℤ r.y2

-- a part on one of the three layers; on the two routing layers it holds the point 0 0
abbrev pub IsPart : ℕ → ℕ → ℕ → ViaPart → Type 0
IsPart low cut high part =
    (part.layer ≡ cut) ⊎ (((part.layer ≡ low) ⊎ (part.layer ≡ high)) × IsTrue part.holds_origin)

-- The parts join the routing layers `low` and `high` by cuts on the layer `cut`, and use all three.
pub record Joins (layers : List LayerUse) (parts : List ViaPart) (low cut high : ℕ) : Type 0 where
  pub low_used : IsUsed parts low
  pub cut_used : IsUsed parts cut
  pub high_used : IsUsed parts high
  pub low_routes : IsTrue (is_routing layers low)
  pub cut_cuts : IsTrue (is_cut layers cut)
  pub high_routes : IsTrue (is_routing layers high)
  pub above : low < cut
  pub below : cut < high
  pub none_between : (k : ℕ) → low < k → k < high → is_routing layers k ≡ false
  pub each : All (IsPart low cut high) parts
