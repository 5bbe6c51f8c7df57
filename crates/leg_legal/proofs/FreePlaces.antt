-- The places of free positions, told by unit squares.
use Rattle.std.proofs.Common.{◌≡◌, ◌↔◌, ℕ, ◌+◌, ◌-◌, ◌*◌, ◌<◌, ◌≤◌, pos, ◌+ℤ◌, ◌*ℤ◌, ◌≤ℤ◌, add-mul, unsigned_abs, Bool, true, false, IsTrue, Some, List, ◌∷◌, ◌++◌, get_or, slice_get, inl, inr, refl, sym, ap, subst, ◌∙◌, arith, length-append}
use Rattle.std.proofs.lemmas.Bool.{cases_lt, false≢true}
use Rattle.std.proofs.lemmas.Int.{ints}
use Rattle.std.proofs.lemmas.List.{get_or_append_left}
use Rattle.std.proofs.lemmas.Option.{same_Some}
use Rattle.std.proofs.Math.Nat.{mul-le-mul_right}
use Rattle.leg_lemmas.proofs.Places.{all_at}
use Rattle.leg_geom.specs.Plane.{PointModel, RectModel}
use Rattle.leg_geom.specs.declared.place.Place.{Place}
use Rattle.leg_lib_records.specs.Measure.{ExtentModel, HasArea, IsExtent}
use Rattle.leg_lib_records.specs.Records.{MasterModel}
use Rattle.leg_lib_records.specs.Sound.{IsSound}
use Rattle.leg_design_records.specs.Records.{DesignModel}
use Rattle.leg_design_records.specs.WellFormed.{IsWellFormed}
use Rattle.leg_design_records.specs.WellFormedParts.{IsRow}
use Rattle.leg_design_records.specs.declared.records.Row.{Row}
use Rattle.leg_rules.specs.Placement.Box.{placed_box}
use Rattle.leg_rules.specs.Placement.Sites.{IsOnSites}
use Rattle.leg_place.proofs.OnSites.{IsWide, IsLevel, IsEdge, sites_long, level_from_on_sites, left_from_on_sites, right_from_on_sites}
use Rattle.leg_rules.specs.Legalise.Preference.{IsTurned}
use Rattle.leg_legal_sites.proofs.MacroBoxes.{upright_box, fitting_upright}
use Rattle.leg_design_records.specs.Movable.{MayMove, IsMovable}
use Rattle.leg_rules.specs.Legalise.Start.{start_of, distance}
use Rattle.leg_rules.specs.Legalise.Places.{orient_if_placed}
use Rattle.leg_rules.specs.Legalise.Refusals.{IsStuck}
use Rattle.leg_legal.specs.FreePlaces.{HasMacroSizes, IsFreePlace, HasFreePosition}
use Rattle.leg_legal.proofs.OnRow.{HasSoundRows, stands_on_row}
use Rattle.leg_legal.proofs.RunSoFar.{AreMovable, IsSoFar, so_far}
use Rattle.leg_legal.proofs.TheOrder.{order_movable}
use Rattle.leg_legal.proofs.Decisions.{HoldsOrNot}
use Rattle.leg_legal.proofs.Orientations.{turned_or_not}

-- a box of this width and height from a point on is at the edges of some sites
pub record IsAtSites (row : Row) (site size : ExtentModel) (at : PointModel) : Type 0 where
  pub first : ℕ
  pub many : ℕ
  pub some : 1 ≤ many
  pub high : size.height ≡ site.height
  pub wide : size.width ≡ pos many *ℤ site.width
  pub within : pos (first + many) ≤ℤ row.count
  pub is : at ≡ record { x = row.at.x +ℤ pos first *ℤ site.width; y = row.at.y }

module _ (row : Row) (site size : ExtentModel) (area : HasArea site) (has_area : HasArea size) (at : PointModel) (box : RectModel)
    (box_is : box ≡ record { x1 = at.x; y1 = at.y; x2 = at.x +ℤ size.width; y2 = at.y +ℤ size.height }) (on : IsOnSites row site box) where
  x1_is : box.x1 ≡ at.x
  x1_is = ap (λ (b : RectModel). b.x1) box_is

  y1_is : box.y1 ≡ at.y
  y1_is = ap (λ (b : RectModel). b.y1) box_is

  x2_is : box.x2 ≡ at.x +ℤ size.width
  x2_is = ap (λ (b : RectModel). b.x2) box_is

  y2_is : box.y2 ≡ at.y +ℤ size.height
  y2_is = ap (λ (b : RectModel). b.y2) box_is

  proper : IsWide box
  proper = record { wide = omega (arith, ints, x1_is, x2_is, has_area.wide); high = omega (arith, ints, y1_is, y2_is, has_area.high) }

  level : IsLevel row site box
  level = level_from_on_sites row site box area proper on

  left : IsEdge row site box.x1
  left = left_from_on_sites row site box area proper on

  right : IsEdge row site box.x2
  right = right_from_on_sites row site box area proper on

  abbrev n : ℕ
  n = unsigned_abs site.width

  edge : (k : ℕ) → pos k *ℤ site.width ≡ pos (k * n)
  edge k = sites_long site n (omega (arith, ints, area.wide)) k

  left_at : box.x1 ≡ row.at.x +ℤ pos (left.k * n)
  left_at = left.is ∙ ap (λ l. row.at.x +ℤ l) (edge left.k)

  right_at : box.x2 ≡ row.at.x +ℤ pos (right.k * n)
  right_at = right.is ∙ ap (λ l. row.at.x +ℤ l) (edge right.k)

  in_order : left.k < right.k
  in_order =
      elim (cases_lt left.k right.k) [
        | inl below ↦ below
        | inr above ↦ absurd (omega (arith, ints, left_at, right_at, proper.wide, mul-le-mul_right n above))
      ]

  sum : left.k + (right.k - left.k) ≡ right.k
  sum = omega (arith, in_order)

  parts : right.k * n ≡ left.k * n + (right.k - left.k) * n
  parts = ap (λ k. k * n) (sym sum) ∙ add-mul left.k (right.k - left.k) n

  pub at_sites : IsAtSites row site size at
  at_sites = record {
    first = left.k;
    many = right.k - left.k;
    some = omega (arith, in_order);
    high = omega (arith, ints, level.bottom, level.top, y1_is, y2_is);
    wide = omega (arith, ints, edge (right.k - left.k), left_at, right_at, x1_is, x2_is, parts);
    within = rw sum right.within;
    is = λ i. record { x = (sym x1_is ∙ left.is) i; y = (sym y1_is ∙ level.bottom) i };
  }

-- a flag for a fact that holds or doesn't
pub flag_of : {P : Type 0} → HoldsOrNot P → (flag : Bool) × (IsTrue flag ↔ P)
flag_of (inl p) = (true, (λ t. p, λ q. refl))
flag_of (inr never) = (false, (λ t. absurd (false≢true t), λ p. absurd (never p)))

module _ (design : DesignModel) (sound : HasSoundRows design) (sized : HasMacroSizes design.library) (done : List ℕ) (c number : ℕ) (place : Place) where
  -- a place on sites of a row is at some position of it
  module _ (f : IsFreePlace design done c number place) where
    is_row : IsRow design.library f.row
    is_row = all_at (IsRow design.library) design.rows number f.row sound.rows f.is_row

    area : HasArea f.on_row.site.size
    area = (all_at (λ s. IsExtent s.size) design.library.sites f.movable.number f.on_row.site sound.sites f.on_row.there).area

    has_area : HasArea f.movable.master.size
    has_area = (all_at (λ (m : MasterModel). IsExtent m.size) design.library.masters f.movable.component.master f.movable.master sized f.movable.is_master).area

    box_is : placed_box f.movable.master.size place ≡
        record { x1 = place.at.x; y1 = place.at.y; x2 = place.at.x +ℤ f.movable.master.size.width; y2 = place.at.y +ℤ f.movable.master.size.height }
    box_is =
        upright_box f.movable.master.size place.at place.orient has_area
        (fitting_upright f.row.orient f.movable.master.y_symmetric place.orient is_row.upright f.on_row.fits)

    at : IsAtSites f.row f.on_row.site.size f.movable.master.size place.at
    at = at_sites f.row f.on_row.site.size f.movable.master.size area has_area place.at (placed_box f.movable.master.size place) box_is f.on_row.sites

    flag : (flag : Bool) × (IsTrue flag ↔ IsTurned f.row.orient f.movable.master.y_symmetric (orient_if_placed f.movable.component.place))
    flag = flag_of (turned_or_not f.row.orient f.movable.master.y_symmetric (orient_if_placed f.movable.component.place))

    pub position_of_place : HasFreePosition design done c number place
    position_of_place = record {
      position = record {
        distance = distance place.at (start_of design.die f.movable.component.place);
        turned = flag.0;
        row = number;
        first = at.first;
      };
      row = refl;
      free = record {
        stands = record {
          component = f.movable.component;
          there = f.movable.there;
          master = f.movable.master;
          is_master = f.movable.is_master;
          row = f.row;
          is_row = f.is_row;
          same = f.movable.site ∙ ap (λ s. Some s) (sym f.on_row.same);
          site = f.on_row.site;
          is_site = rw f.on_row.same f.on_row.there;
          high = at.high;
          many = at.many;
          some = at.some;
          wide = at.wide;
          within = at.within;
          at = at.is;
          takes = f.takes;
          distance = refl;
          turned = flag.1;
        };
        clear = f.clear;
      };
    }

  -- and a free position of a movable component has such a place
  pub place_of_position : IsMovable design c → HasFreePosition design done c number place → IsFreePlace design done c number place
  place_of_position m p =
      let s = p.free.stands in
      let same : s.component ≡ m.component = same_Some s.component m.component (sym s.there ∙ m.there) in
      let may : MayMove s.component.status = rw same m.status in
      let is_row : slice_get design.rows number ≡ Some s.row = rw p.row at s.is_row in
      record {
        movable = record {
          component = s.component;
          there = s.there;
          status = may;
          master = s.master;
          is_master = s.is_master;
          number = s.row.site;
          site = s.same;
        };
        row = s.row;
        is_row = is_row;
        on_row = stands_on_row design sound c p.position place s;
        takes = s.takes;
        clear = p.free.clear;
      }

-- the law, of a design whose parts have sizes
pub free_places : (design : DesignModel) → IsWellFormed design → IsSound design.library → HasMacroSizes design.library
    → (done : List ℕ) (c number : ℕ) (place : Place) → IsMovable design c → IsFreePlace design done c number place ↔ HasFreePosition design done c number place
free_places design proper sound sized done c number place movable =
    let rows : HasSoundRows design = record { sites = sound.sites; rows = proper.rows } in
    (position_of_place design rows sized done c number place, place_of_position design rows sized done c number place movable)

-- movable components, no two alike, are so without those at the end
pub front_movable : (design : DesignModel) (xs ys : List ℕ) → AreMovable design (xs ++ ys) → AreMovable design xs
front_movable design xs ys are = record {
  each = λ k d within.
      let is : get_or (xs ++ ys) k d ≡ get_or xs k d = get_or_append_left xs ys d k within in
      rw is at (are.each k d (omega (arith, length-append xs ys)));
  apart = λ i j d below within.
      let first : get_or (xs ++ ys) i d ≡ get_or xs i d = get_or_append_left xs ys d i (omega arith) in
      let second : get_or (xs ++ ys) j d ≡ get_or xs j d = get_or_append_left xs ys d j within in
      rw (first, second) at (are.apart i j d below (omega (arith, length-append xs ys)));
}

-- what a run leaves as it is: rows, sites and sizes of macros
module _ (before : DesignModel) (proper : IsWellFormed before) (sound : IsSound before.library) (sized : HasMacroSizes before.library)
    (done : List ℕ) (now : DesignModel) (so : IsSoFar before done now) where
  pub rows_now : HasSoundRows now
  rows_now = so.sound (record { sites = sound.sites; rows = proper.rows })

  pub sizes_now : HasMacroSizes now.library
  sizes_now = subst (λ (d : DesignModel). HasMacroSizes d.library) (sym so.rest) sized

-- for a component that is without room no place is free
pub no_free_place : (design : DesignModel) → IsWellFormed design → IsSound design.library → HasMacroSizes design.library
    → (c : ℕ) (stuck : IsStuck design c) (number : ℕ) (place : Place) → IsFreePlace stuck.now stuck.done c number place → ⊥
no_free_place design proper sound sized c stuck number place f =
    let are : AreMovable design (stuck.done ++ c ∷ stuck.rest) = order_movable design (stuck.done ++ c ∷ stuck.rest) stuck.is_order in
    let so : IsSoFar design stuck.done stuck.now = so_far design stuck.done stuck.now stuck.run (front_movable design stuck.done (c ∷ stuck.rest) are) in
    let p =
    position_of_place stuck.now (rows_now design proper sound sized stuck.done stuck.now so) (sizes_now design proper sound sized stuck.done stuck.now so)
    stuck.done c number place f in
    stuck.full p.position place p.free
