-- A macro fits on free sites just where its box is clear.
use Rattle.std.proofs.Common.{◌≡◌, ◌↔◌, ℕ, ◌+◌, ◌≤◌, pos, ◌+ℤ◌, ◌*ℤ◌, ◌≤ℤ◌, IsTrue, List, zero, suc, arith}
use Rattle.std.proofs.lemmas.Int.{ints}
use Rattle.leg_geom.specs.Plane.{RectModel}
use Rattle.leg_geom.specs.declared.place.Place.{Place}
use Rattle.leg_lib_records.specs.Measure.{ExtentModel, HasArea}
use Rattle.leg_design_records.specs.Rows.{is_upright}
use Rattle.leg_design_records.specs.declared.records.Row.{Row}
use Rattle.leg_rules.specs.Placement.Box.{placed_box}
use Rattle.leg_legal_sites.specs.declared.stretch.Stretch.{Stretch}
use Rattle.leg_legal_sites.specs.Steps.Stretches.{AreFreeSites}
use Rattle.leg_legal_sites.specs.Steps.ClearSites.{IsFreeList}
use Rattle.leg_rules.specs.Legalise.Clear.{IsClear}
use Rattle.leg_legal_sites.proofs.ClearBoxes.{free_just_where_clear}
use Rattle.leg_legal_sites.proofs.MacroBoxes.{macro_box}

module _ (row : Row) (site size : ExtentModel) (many : ℕ) (area : HasArea site) (has_area : HasArea size) (wide : size.width ≡ pos many *ℤ site.width)
    (high : size.height ≡ site.height) where
  -- what has a width is one site wide at least
  pub some_sites : 1 ≤ many
  some_sites = from many wide where
    from : (n : ℕ) → size.width ≡ pos n *ℤ site.width → 1 ≤ n
    from zero none = absurd (omega (arith, ints, none, has_area.wide))
    from (suc n) is = omega arith

  -- The macro's sites, from the first on, are free just where the row has them and its box is clear.
  module _ (die : RectModel) (Taken : RectModel → Type 0) (free : List Stretch) (known : IsFreeList row site die Taken free) where
    pub free_just_where_macro_clear : (first : ℕ) (place : Place) → place.at ≡ record { x = row.at.x +ℤ pos first *ℤ site.width; y = row.at.y }
        → IsTrue (is_upright place.orient) → AreFreeSites free many first ↔ ((pos (first + many) ≤ℤ row.count) × IsClear die Taken (placed_box size place))
    free_just_where_macro_clear first place at upright =
        rw (macro_box row site size first many (record { site_area = area; area = has_area; wide = wide; high = high }) place at upright)
        (free_just_where_clear row site area die Taken free known many first some_sites)
