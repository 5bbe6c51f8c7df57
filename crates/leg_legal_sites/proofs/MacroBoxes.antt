-- A macro that is as high as a row's sites and as wide as some of them, with its lower left corner at that of a site.
use Rattle.std.proofs.Common.{◌≡◌, ℕ, ◌+◌, add-mul, ℤ, pos, ◌+ℤ◌, ◌-ℤ◌, ◌*ℤ◌, ◌<ℤ◌, ◌≤ℤ◌, Bool, IsTrue, inl, inr, refl, sym, ap, ◌∙◌, arith, unsigned_abs}
use Rattle.std.proofs.lemmas.Bool.{false≢true}
use Rattle.std.proofs.lemmas.Int.{ints}
use Rattle.leg_lemmas.proofs.Integers.{lt_test, not_lt_test}
use Rattle.leg_geom.specs.Plane.{PointModel, RectModel}
use Rattle.leg_geom.specs.Line.{between, Interval}
use Rattle.leg_geom.specs.declared.orient.Orient.{Orient}
use Rattle.leg_geom.specs.declared.orient.Orient.TheVariants.{N, S, W, E, FN, FS, FW, FE}
use Rattle.leg_geom.specs.declared.place.Place.{Place}
use Rattle.leg_geom.specs.Orientation.{turned}
use Rattle.leg_lib_records.specs.Measure.{ExtentModel, HasArea}
use Rattle.leg_design_records.specs.Rows.{is_upright}
use Rattle.leg_design_records.specs.declared.records.Row.{Row}
use Rattle.leg_rules.specs.Placement.Box.{placed_box}
use Rattle.leg_rules.specs.Placement.Sites.{IsOnSites, Fits}
use Rattle.leg_legal_sites.specs.Steps.ClearSites.{sites_box}
use Rattle.leg_legal_sites.proofs.SiteEdges.{edge_is}
use Rattle.leg_legal_sites.proofs.SiteSquares.{on_sites}

-- the interval of two numbers, the lower one first or last
between_rising : (a b : ℤ) → a <ℤ b → between a b ≡ record { low = a; high = b }
between_rising a b below = rw (lt_test a b below) refl

between_falling : (a b : ℤ) → a <ℤ b → between b a ≡ record { low = a; high = b }
between_falling a b below = rw (not_lt_test a b below) refl

-- the rectangle of two intervals
abbrev sides_of : Interval → Interval → RectModel
sides_of x y = record { x1 = x.low; y1 = y.low; x2 = x.high; y2 = y.high }

same_box : {x u y v : Interval} → x ≡ u → y ≡ v → sides_of x y ≡ sides_of u v
same_box e f = λ i. sides_of (e i) (f i)

-- a length added to a coordinate, as an orientation gives it
module _ (at long : ℤ) (some : pos 0 <ℤ long) where
  along : between (at +ℤ pos 0) (at +ℤ long) ≡ record { low = at; high = at +ℤ long }
  along = rw (between_rising (at +ℤ pos 0) (at +ℤ long) (omega (arith, ints, some))) (let same : at +ℤ pos 0 ≡ at = omega (arith, ints) in rw same refl)

  against : between (at +ℤ (long -ℤ pos 0)) (at +ℤ (long -ℤ long)) ≡ record { low = at; high = at +ℤ long }
  against =
      let low : at +ℤ (long -ℤ long) ≡ at = omega (arith, ints) in
      let high : at +ℤ (long -ℤ pos 0) ≡ at +ℤ long = omega (arith, ints) in
      rw (low, high) (between_falling at (at +ℤ long) (omega (arith, ints, some)))

-- the box of a macro that isn't turned: its own width and height from the place on
pub upright_box : (size : ExtentModel) (at : PointModel) (orient : Orient) → HasArea size → IsTrue (is_upright orient)
    → placed_box size (record { at = at; orient = orient }) ≡ record { x1 = at.x; y1 = at.y; x2 = at.x +ℤ size.width; y2 = at.y +ℤ size.height }
upright_box size at N area upright = same_box (along at.x size.width area.wide) (along at.y size.height area.high)
upright_box size at S area upright = same_box (against at.x size.width area.wide) (against at.y size.height area.high)
upright_box size at FN area upright = same_box (against at.x size.width area.wide) (along at.y size.height area.high)
upright_box size at FS area upright = same_box (along at.x size.width area.wide) (against at.y size.height area.high)
upright_box size at W area upright = absurd (false≢true upright)
upright_box size at E area upright = absurd (false≢true upright)
upright_box size at FW area upright = absurd (false≢true upright)
upright_box size at FE area upright = absurd (false≢true upright)

-- a macro, which has area as a site does, is as high as a site and as wide as so many of them
pub record FillsSites (site size : ExtentModel) (many : ℕ) : Type 0 where
  pub site_area : HasArea site
  pub area : HasArea size
  pub wide : size.width ≡ pos many *ℤ site.width
  pub high : size.height ≡ site.height

-- Such a macro has exactly the box of the sites on which it is put.
module _ (row : Row) (site size : ExtentModel) (first many : ℕ) where
  -- the right edge of the macro is that of its last site
  right_edge : HasArea site → size.width ≡ pos many *ℤ site.width
      → (row.at.x +ℤ pos first *ℤ site.width) +ℤ size.width ≡ row.at.x +ℤ pos (first + many) *ℤ site.width
  right_edge area wide =
      let n = unsigned_abs site.width in
      let width : site.width ≡ pos n = omega (arith, ints, area.wide) in
      let at = edge_is site.width n width first in
      let long = edge_is site.width n width many in
      let end = edge_is site.width n width (first + many) in
      omega (arith, ints, wide, at, long, end, add-mul first many n)

  pub macro_box : FillsSites site size many → (place : Place) → place.at ≡ record { x = row.at.x +ℤ pos first *ℤ site.width; y = row.at.y }
      → IsTrue (is_upright place.orient) → placed_box size place ≡ sites_box row site first many
  macro_box fills place at upright =
      ap (λ (p : PointModel). placed_box size (record { at = p; orient = place.orient })) at
      ∙ upright_box size (record { x = row.at.x +ℤ pos first *ℤ site.width; y = row.at.y }) place.orient fills.area upright
      ∙ same_box
      (λ i. record { low = row.at.x +ℤ pos first *ℤ site.width; high = right_edge fills.site_area fills.wide i })
      (λ i. record { low = row.at.y; high = row.at.y +ℤ fills.high i })

  -- so it stands on sites of the row
  pub macro_on_sites : FillsSites site size many → pos (first + many) ≤ℤ row.count → (place : Place)
      → place.at ≡ record { x = row.at.x +ℤ pos first *ℤ site.width; y = row.at.y } → IsTrue (is_upright place.orient)
      → IsOnSites row site (placed_box size place)
  macro_on_sites fills within place at upright = rw (macro_box fills place at upright) (on_sites row site fills.site_area first many within)

-- an orientation that isn't turned keeps points of one height at one height, and one that is turned doesn't
module _ (w h : ℤ) where
  level : (o : Orient) → IsTrue (is_upright o) → (turned o w h (record { x = pos 0; y = pos 0 })).y ≡ (turned o w h (record { x = pos 1; y = pos 0 })).y
  level N upright = refl
  level S upright = refl
  level FN upright = refl
  level FS upright = refl
  level W upright = absurd (false≢true upright)
  level E upright = absurd (false≢true upright)
  level FW upright = absurd (false≢true upright)
  level FE upright = absurd (false≢true upright)

  upright_from_level : (o : Orient) → (turned o w h (record { x = pos 0; y = pos 0 })).y ≡ (turned o w h (record { x = pos 1; y = pos 0 })).y
      → IsTrue (is_upright o)
  upright_from_level N same = refl
  upright_from_level S same = refl
  upright_from_level FN same = refl
  upright_from_level FS same = refl
  upright_from_level W same = absurd (omega (arith, ints, same))
  upright_from_level E same = absurd (omega (arith, ints, same))
  upright_from_level FW same = absurd (omega (arith, ints, same))
  upright_from_level FE same = absurd (omega (arith, ints, same))

-- what fits a row that isn't turned isn't turned
pub fitting_upright : (row : Orient) (y_symmetric : Bool) (orient : Orient) → IsTrue (is_upright row) → Fits row y_symmetric orient → IsTrue (is_upright orient)
fitting_upright row y_symmetric orient upright (inl same) = rw same upright
fitting_upright row y_symmetric orient upright (inr mirror) =
    let is = mirror.1 in
    let at : (turned orient (pos 0) (pos 0) (record { x = pos 0; y = pos 0 })).y ≡ (turned row (pos 0) (pos 0) (record { x = pos 0; y = pos 0 })).y =
    ap (λ (s : PointModel). s.y) (is (pos 0) (pos 0) (record { x = pos 0; y = pos 0 })) in
    let by : (turned orient (pos 0) (pos 0) (record { x = pos 1; y = pos 0 })).y ≡ (turned row (pos 0) (pos 0) (record { x = pos 1; y = pos 0 })).y =
    ap (λ (s : PointModel). s.y) (is (pos 0) (pos 0) (record { x = pos 1; y = pos 0 })) in
    upright_from_level (pos 0) (pos 0) orient (at ∙ level (pos 0) (pos 0) row upright ∙ sym by)
