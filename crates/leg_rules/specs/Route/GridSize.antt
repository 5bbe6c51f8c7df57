-- How large the grid is (lefdef's own rules).
use Rattle.std.specs.Prelude.{ℕ, ◌*◌, ◌<◌, ◌⊎◌, ℤ, ◌<ℤ◌, List, sum_by, count_by, length, AllPairs, All, Contains, is_some, unsigned_abs}
use Rattle.leg_lib_records.specs.Records.{LibraryModel}
use Rattle.leg_design_records.specs.Layers.{wire_width}
use Rattle.leg_design_records.specs.Records.{TrackModel, DesignModel}
use Rattle.leg_rules.specs.declared.grid_limits.TheConstants.{GRID_LIMIT}
use Rattle.leg_rules.specs.Route.Tracks.{IsGridX, IsGridY}

-- the values in increasing order, each once
pub record AreValues (IsValue : ℤ → Type 0) (values : List ℤ) : Type 0 where
  pub increasing : AllPairs (λ a b. a <ℤ b) values
  pub each : All IsValue values
  pub all : (z : ℤ) → IsValue z → Contains values z

-- how many tracks there are, those of all statements taken together
abbrev pub track_count : List TrackModel → ℕ
track_count tracks = sum_by (λ track. unsigned_abs track.count) tracks

-- how many routing layers there are
abbrev pub routing_count : LibraryModel → ℕ
routing_count library = count_by (λ layer. is_some (wire_width layer.kind)) library.layers

-- how many slots a grid of these values has: one on each routing layer for each pair of values
abbrev pub slot_count : DesignModel → List ℤ → List ℤ → ℕ
slot_count design xs ys = routing_count design.library * length ys * length xs

-- the grid's values along both axes
pub record AreGridValues (design : DesignModel) (xs ys : List ℤ) : Type 0 where
  pub xs_are : AreValues (IsGridX design) xs
  pub ys_are : AreValues (IsGridY design) ys

-- The grid is beyond a limit: there are more tracks than this, or more slots.
abbrev pub IsGridBeyond : ℕ → DesignModel → Type 0
IsGridBeyond limit design =
    (limit < track_count design.tracks)
    ⊎ ((xs : List ℤ) × (ys : List ℤ) × AreGridValues design xs ys × (limit < slot_count design xs ys))

-- The grid is too large: it is beyond the limit of routed designs.
abbrev pub IsGridTooLarge : DesignModel → Type 0
IsGridTooLarge design = IsGridBeyond GRID_LIMIT design
