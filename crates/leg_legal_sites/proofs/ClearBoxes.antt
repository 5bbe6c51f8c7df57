-- Consecutive sites are free just where the box of them all is clear.
use Rattle.std.proofs.Common.{◌≡◌, ◌↔◌, ℕ, ◌+◌, ◌-◌, ◌<◌, ◌≤◌, pos, ◌≤ℤ◌, List, arith}
use Rattle.std.proofs.lemmas.Int.{ints}
use Rattle.leg_geom.specs.Plane.{PointModel, RectModel, HasSquare}
use Rattle.leg_lib_records.specs.Measure.{ExtentModel, HasArea}
use Rattle.leg_design_records.specs.declared.records.Row.{Row}
use Rattle.leg_rules.specs.Placement.Sites.{site_box}
use Rattle.leg_legal_sites.specs.declared.stretch.Stretch.{Stretch}
use Rattle.leg_legal_sites.specs.Steps.Stretches.{AreFreeSites}
use Rattle.leg_legal_sites.specs.Steps.ClearSites.{IsFreeList, sites_box}
use Rattle.leg_rules.specs.Legalise.Clear.{IsClear}
use Rattle.leg_legal_sites.proofs.SiteSquares.{site_of_square, square_of_site}

module _ (row : Row) (size : ExtentModel) (area : HasArea size) (die : RectModel) (Taken : RectModel → Type 0) where
  module _ (first many : ℕ) where
    -- a box of sites that are each clear is clear
    pub clear_from_sites : ((k : ℕ) → first ≤ k → k < first + many → IsClear die Taken (site_box row size k))
        → IsClear die Taken (sites_box row size first many)
    clear_from_sites each = record {
      inside = λ square c. let s = site_of_square row size area first many square c in (each s.k s.from s.below).inside square s.inside;
      alone = λ other taken shared.
          let s = site_of_square row size area first many shared.square shared.in_b in
          (each s.k s.from s.below).alone other taken (record { square = shared.square; in_a = shared.in_a; in_b = s.inside });
    }

    -- and the other way round
    pub site_from_clear : IsClear die Taken (sites_box row size first many) → (k : ℕ) → first ≤ k → k < first + many → IsClear die Taken (site_box row size k)
    site_from_clear clear k from below =
        let in_box : (square : PointModel) → HasSquare (site_box row size k) square → HasSquare (sites_box row size first many) square =
        λ square c. square_of_site row size area first many square (record { k = k; from = from; below = below; inside = c }) in
        record {
          inside = λ square c. clear.inside square (in_box square c);
          alone = λ other taken shared. clear.alone other taken
              (record { square = shared.square; in_a = shared.in_a; in_b = in_box shared.square shared.in_b });
        }

  module _ (free : List Stretch) (known : IsFreeList row size die Taken free) (many first : ℕ) (some : 1 ≤ many) where
    -- free sites are sites of the row, and their box is clear
    pub free_sites_within : AreFreeSites free many first → pos (first + many) ≤ℤ row.count
    free_sites_within sites =
        let last = first + many - 1 in
        let is : last + 1 ≡ first + many = omega (arith, some) in
        let below = ((known last).0 (sites last (omega (arith, is, some)) (omega (arith, is)))).0 in
        omega (arith, ints, below, is)

    pub free_sites_clear : AreFreeSites free many first → IsClear die Taken (sites_box row size first many)
    free_sites_clear sites = clear_from_sites first many (λ k from below. ((known k).0 (sites k from below)).1)

    -- sites of the row whose box is clear are free
    pub free_from_clear : pos (first + many) ≤ℤ row.count → IsClear die Taken (sites_box row size first many) → AreFreeSites free many first
    free_from_clear within clear k from below = (known k).1 (omega (arith, ints, within, below), site_from_clear first many clear k from below)

    -- so many sites, from the first on, are free just where the row has them and no unit square of their box is taken
    pub free_just_where_clear : AreFreeSites free many first ↔ ((pos (first + many) ≤ℤ row.count) × IsClear die Taken (sites_box row size first many))
    free_just_where_clear = (λ sites. (free_sites_within sites, free_sites_clear sites), λ both. free_from_clear both.0 both.1)
