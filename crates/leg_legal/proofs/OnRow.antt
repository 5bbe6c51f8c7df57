-- A component that stands at a position stands on the sites of its row.
use Rattle.std.proofs.Common.{◌≡◌, ℕ, pos, ◌*◌, ◌≤◌, ◌*ℤ◌, Bool, Option, None, Some, All, unsigned_abs, inl, inr, refl, arith}
use Rattle.std.proofs.Math.IntN.{pos-*ℤ-pos}
use Rattle.std.proofs.Math.Nat.{mul-le-mul_left}
use Rattle.std.proofs.lemmas.Int.{ints}
use Rattle.leg_lemmas.proofs.Places.{all_at}
use Rattle.leg_geom.specs.declared.orient.Orient.{Orient}
use Rattle.leg_geom.specs.declared.place.Place.{Place}
use Rattle.leg_lib_records.specs.Measure.{ExtentModel, HasArea, IsExtent}
use Rattle.leg_design_records.specs.Records.{DesignModel}
use Rattle.leg_design_records.specs.WellFormedParts.{IsRow}
use Rattle.leg_rules.specs.Placement.Sites.{Fits, IsOnRow}
use Rattle.leg_rules.specs.declared.position.Candidate.{Candidate}
use Rattle.leg_legal_sites.proofs.MacroBoxes.{macro_on_sites, fitting_upright}
use Rattle.leg_rules.specs.Legalise.Places.{orient_if_placed, Takes, IsPlacedOn}

-- the sites of the library have area, and rows are as a design has them
pub record HasSoundRows (design : DesignModel) : Type 0 where
  pub sites : All (λ site. IsExtent site.size) design.library.sites
  pub rows : All (IsRow design.library) design.rows

-- the orientation that is taken fits the row
pub takes_fits : (row : Orient) (symmetric : Bool) (old : Option Orient) (orient : Orient) → Takes row symmetric old orient → Fits row symmetric orient
takes_fits row symmetric None orient t = inl t
takes_fits row symmetric (Some old) orient (inl kept) = rw kept.1 kept.0
takes_fits row symmetric (Some old) orient (inr changed) = inl changed.1

-- a macro as high as a site and as wide as some of them has area
pub area_of_sites : (site size : ExtentModel) (many : ℕ) → HasArea site → 1 ≤ many → size.width ≡ pos many *ℤ site.width → size.height ≡ site.height
    → HasArea size
area_of_sites site size many area some wide high =
    let n : ℕ = unsigned_abs site.width in
    let width : site.width ≡ pos n = omega (arith, ints, area.wide) in
    let one : 1 ≤ n = omega (arith, ints, area.wide) in
    let least : many * 1 ≤ many * n = mul-le-mul_left many one in
    let product : pos many *ℤ site.width ≡ pos (many * n) = rw width (pos-*ℤ-pos many n) in
    record { wide = omega (arith, ints, wide, product, least, some); high = omega (arith, ints, high, area.high) }

module _ (design : DesignModel) (sound : HasSoundRows design) (c : ℕ) (position : Candidate) (place : Place)
    (stands : IsPlacedOn design c position place) where
  fits : Fits stands.row.orient stands.master.y_symmetric place.orient
  fits = takes_fits stands.row.orient stands.master.y_symmetric (orient_if_placed stands.component.place) place.orient stands.takes

  pub site_area : HasArea stands.site.size
  site_area = (all_at (λ site. IsExtent site.size) design.library.sites stands.row.site stands.site sound.sites stands.is_site).area

  is_row : IsRow design.library stands.row
  is_row = all_at (IsRow design.library) design.rows position.row stands.row sound.rows stands.is_row

  pub stands_on_row : IsOnRow design.library stands.master stands.row.site place stands.row
  stands_on_row = record {
    same = refl;
    site = stands.site;
    there = stands.is_site;
    fits = fits;
    sites =
        macro_on_sites stands.row stands.site.size stands.master.size position.first stands.many
        (record {
          site_area = site_area;
          area = area_of_sites stands.site.size stands.master.size stands.many site_area stands.some stands.wide stands.high;
          wide = stands.wide;
          high = stands.high;
        })
        stands.within place stands.at
        (fitting_upright stands.row.orient stands.master.y_symmetric place.orient is_row.upright fits);
  }
