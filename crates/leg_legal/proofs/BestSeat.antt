-- The positions that the lists of free sites show are the free positions.
use Rattle.std.proofs.Common.{◌≡◌, ◌↔◌, ℕ, pos, ◌+◌, ◌*◌, ◌/◌, ◌%◌, ◌<◌, ◌≤◌, ◌+ℤ◌, ◌*ℤ◌, ◌≤ℤ◌, ◌<ℤ◌, IsTrue, List, [], length, get_or, Contains, None, Some, slice_get, unsigned_abs, inl, inr, refl, sym, ap, ◌∙◌, arith}
use Rattle.std.proofs.Math.IntN.{pos-*ℤ-pos}
use Rattle.std.proofs.Math.Nat.{mul-le-mul_right, mod-eq-sub-div-mul, div-mul-le_self}
use Rattle.std.proofs.lemmas.Bool.{cases_lt, cases_eq}
use Rattle.std.proofs.lemmas.Int.{ints, by_lt_z}
use Rattle.std.proofs.lemmas.Option.{same_Some, slice_get-get_or, slice_get_within}
use Rattle.leg_lemmas.proofs.Places.{all_at}
use Rattle.leg_lex.specs.Number.{IsNumber}
use Rattle.leg_geom.specs.Plane.{RectModel}
use Rattle.leg_geom.specs.Gap.{apart}
use Rattle.leg_geom.specs.declared.orient.Orient.{Orient}
use Rattle.leg_geom.specs.declared.place.Place.{Place}
use Rattle.leg_lib_records.specs.declared.records.Site.{Site}
use Rattle.leg_lib_records.specs.Measure.{ExtentModel, HasArea, IsExtent}
use Rattle.leg_lib_records.specs.Records.{MasterModel}
use Rattle.leg_design_records.specs.Records.{DesignModel}
use Rattle.leg_design_records.specs.Rows.{is_upright}
use Rattle.leg_design_records.specs.WellFormedParts.{IsPosition, IsRow}
use Rattle.leg_design_records.specs.WellFormed.{IsWellFormed}
use Rattle.leg_design_records.specs.declared.records.Row.{Row}
use Rattle.leg_design_records.specs.declared.records.Component.{Component}
use Rattle.leg_rules.specs.Placement.Box.{placed_box}
use Rattle.leg_legal_sites.specs.declared.stretch.Stretch.{Stretch}
use Rattle.leg_rules.specs.declared.position.Candidate.{Candidate}
use Rattle.leg_legal_sites.specs.declared.candidate.Wanted.{Wanted}
use Rattle.leg_legal_sites.specs.Steps.Stretches.{IsFreeSite, AreFreeSites}
use Rattle.leg_legal_sites.specs.Steps.ClearSites.{IsFreeList}
use Rattle.leg_rules.specs.Legalise.Clear.{IsClear}
use Rattle.leg_legal_sites.specs.Steps.FreeLists.{RowLists, AreFreeLists, IsOfItsSite}
use Rattle.leg_legal_sites.specs.Steps.BestPosition.{AreReady, IsCandidate}
use Rattle.leg_rules.specs.Legalise.Preference.{IsTurned, IsNoWorse}
use Rattle.leg_legal_sites.proofs.MacroBoxes.{fitting_upright}
use Rattle.leg_legal_sites.proofs.MacroPlaces.{free_just_where_macro_clear}
use Rattle.leg_design_records.specs.Movable.{IsMovable}
use Rattle.leg_rules.specs.Legalise.Start.{start_of, distance}
use Rattle.leg_rules.specs.Legalise.Places.{orient_if_placed, Takes}
use Rattle.leg_rules.specs.Legalise.Refusals.{FitsSites, HasRowFor, IsUnsuited}
use Rattle.leg_legal.specs.Steps.Seats.{IsWantedOf, IsFreeOf, IsBestPlace}
use Rattle.leg_legal.proofs.OnRow.{takes_fits}
use Rattle.leg_legal.proofs.Misfits.{fits_from_rest, rest_from_fits, told, numbered, no_row_beyond, no_row_unfit}

-- numbers of sites that reach equally far are equal
pub same_many : (j k n : ℕ) → 0 < n → j * n ≡ k * n → j ≡ k
same_many j k n some same =
    elim (cases_lt j k) [
      | inl below ↦ absurd (omega (arith, same, some, step j k n below))
      | inr upto ↦ elim (cases_lt k j) [
        | inl above ↦ absurd (omega (arith, same, some, step k j n above))
        | inr both ↦ omega arith
      ]
    ] where
      step : (a b n : ℕ) → a < b → (a + 1) * n ≤ b * n
      step a b n below = mul-le-mul_right n (omega arith)

-- What a macro fits that isn't known not to fit
module _ (site size : ExtentModel) (area : HasArea site) (has_area : HasArea size) where
  pub fits_stable : ((FitsSites site size → ⊥) → ⊥) → FitsSites site size
  fits_stable never =
      by_lt_z size.height site.height
      (λ low. absurd (never (λ fits. omega (arith, ints, low, fits.high))))
      (λ upto. by_lt_z site.height size.height
      (λ high. absurd (never (λ fits. omega (arith, ints, high, fits.high))))
      (λ same. elim (cases_eq (unsigned_abs size.width % unsigned_abs site.width) 0) [
        | inl none ↦ fits_from_rest site size area has_area (omega (arith, ints, upto, same)) none
        | inr some ↦ absurd (never (λ fits. some (rest_from_fits site size area has_area fits)))
      ]))

  -- by the quotient of the widths
  pub wide_by_quotient : FitsSites site size → size.width ≡ pos (unsigned_abs size.width / unsigned_abs site.width) *ℤ site.width
  wide_by_quotient fits =
      let n : ℕ = unsigned_abs site.width in
      let many : ℕ = unsigned_abs size.width / n in
      let width : site.width ≡ pos n = omega (arith, ints, area.wide) in
      let product : pos many *ℤ site.width ≡ pos (many * n) = rw width (pos-*ℤ-pos many n) in
      let rest : unsigned_abs size.width % n ≡ 0 = rest_from_fits site size area has_area fits in
      let parts : unsigned_abs size.width ≡ many * n =
      omega (arith, mod-eq-sub-div-mul (unsigned_abs size.width) n, rest, div-mul-le_self (unsigned_abs size.width) n) in
      omega (arith, ints, has_area.wide, parts, product)

-- what a movable component asks that isn't unsuited
module _ (design : DesignModel) (c : ℕ) (m : IsMovable design c) (suited : IsUnsuited design c → ⊥)
    (component : Component) (there : slice_get design.components c ≡ Some component)
    (master : MasterModel) (is_master : slice_get design.library.masters component.master ≡ Some master) (number : ℕ) (same : master.site ≡ Some number) where
  misfit_none : (HasRowFor design master.size number → ⊥) → ⊥
  misfit_none none =
      let alike : m.master ≡ master = told design c component master number there is_master same m in
      let numbers : m.number ≡ number = numbered design c component master number there is_master same m in
      suited (record { movable = m; misfit = λ h. none (rw (alike, numbers) at h) })

  -- the library has its site
  pub site_inside : number < length design.library.sites
  site_inside =
      elim (cases_lt number (length design.library.sites)) [
        | inl below ↦ below
        | inr beyond ↦ absurd (misfit_none (no_row_beyond design master.size number beyond))
      ]

  pub wanted_is : (site : Site) → slice_get design.library.sites number ≡ Some site → IsExtent site.size → IsExtent master.size → (wanted : Wanted)
      → wanted ≡ record {
        start = start_of design.die component.place;
        site = number;
        site_width = site.size.width;
        many = unsigned_abs master.size.width / unsigned_abs site.size.width;
        orient = orient_if_placed component.place;
        y_symmetric = master.y_symmetric;
      }
      → IsWantedOf design c wanted
  wanted_is site is_site area has_area wanted is =
      let fits : FitsSites site.size master.size =
      fits_stable site.size master.size area.area has_area.area (λ unfit. misfit_none (no_row_unfit design master.size number site is_site unfit)) in
      rw is (record {
        component = component;
        there = there;
        master = master;
        is_master = is_master;
        same = same;
        site = site;
        is_site = is_site;
        area = area;
        has_area = has_area;
        high = fits.high;
        wide = wide_by_quotient site.size master.size area.area has_area.area fits;
        site_width = refl;
        start = refl;
        orient = refl;
        y_symmetric = refl;
      })

-- sites are as wide as the component that asks takes them to be
pub of_its_site : (design : DesignModel) (c : ℕ) (wanted : Wanted) → IsWantedOf design c wanted → IsOfItsSite design wanted
of_its_site design c wanted asks site there =
    let one : site ≡ asks.site = same_Some site asks.site (sym there ∙ asks.is_site) in
    ap (λ (s : Site). s.size.width) one ∙ sym asks.site_width

-- a component that asks, at the lists that boxes have left
module _ (design : DesignModel) (proper : IsWellFormed design) (c : ℕ) (wanted : Wanted) (asks : IsWantedOf design c wanted)
    (boxes : List RectModel) (free : RowLists) (known : AreFreeLists design boxes free) where
  abbrev n : ℕ
  n = unsigned_abs asks.site.size.width

  width_is : asks.site.size.width ≡ pos n
  width_is = omega (arith, ints, asks.area.area.wide)

  wide_by : (many : ℕ) → pos many *ℤ asks.site.size.width ≡ pos (many * n)
  wide_by many = rw width_is (pos-*ℤ-pos many n)

  pub some_many : 1 ≤ wanted.many
  some_many =
      elim (cases_lt 0 wanted.many) [
        | inl some ↦ some
        | inr none ↦
            let is : wanted.many ≡ 0 = omega arith in
            let nothing : 0 * n ≡ 0 = omega arith in
            let product : pos wanted.many *ℤ asks.site.size.width ≡ pos (0 * n) = rw is (wide_by 0) in
            absurd (omega (arith, ints, asks.wide, asks.has_area.area.wide, product, nothing))
      ]

  pub site_wide : pos 1 ≤ℤ wanted.site_width
  site_wide = omega (arith, ints, asks.site_width, asks.area.area.wide)

  -- the sites of a row begin between its ends
  module _ (row : Row) (is_row : IsRow design.library row) (same : row.site ≡ wanted.site) where
    end_is : is_row.site ≡ asks.site
    end_is = same_Some is_row.site asks.site (sym is_row.there ∙ (rw same asks.is_site))

    pub begins_within : (k : ℕ) → pos k <ℤ row.count → IsNumber (row.at.x +ℤ pos k *ℤ wanted.site_width)
    begins_within k below =
        let end : IsNumber (row.at.x +ℤ row.count *ℤ asks.site.size.width) = rw end_is at is_row.end in
        let count : ℕ = unsigned_abs row.count in
        let count_is : row.count ≡ pos count = omega (arith, ints, is_row.some) in
        let all : row.count *ℤ asks.site.size.width ≡ pos (count * n) = rw count_is (wide_by count) in
        let part : pos k *ℤ wanted.site_width ≡ pos (k * n) = rw asks.site_width (wide_by k) in
        let less : k ≤ count = omega (arith, ints, below, count_is) in
        let order : k * n ≤ count * n = mul-le-mul_right n less in
        omega (arith, ints, end, is_row.at.x, all, part, order)

  -- a list of free sites and the row that it is of
  module _ (number : ℕ) (row : Row) (there : slice_get design.rows number ≡ Some row) (same : row.site ≡ wanted.site)
      (list : List Stretch) (listed : slice_get free.lists number ≡ Some list) where
    row_is : IsRow design.library row
    row_is = all_at (IsRow design.library) design.rows number row proper.rows there

    sited : slice_get design.library.sites row.site ≡ Some asks.site
    sited = rw same asks.is_site

    pub list_known : IsFreeList row asks.site.size design.die (Contains boxes) list
    list_known = known.each number row asks.site list (record { there = there; sited = sited }) listed

    pub site_within : (k : ℕ) → IsFreeSite list k → IsNumber (row.at.x +ℤ pos k *ℤ wanted.site_width)
    site_within k site = begins_within row row_is same k ((list_known k).0 site).0

    pub fits_upright : (orient : Orient) → Takes row.orient wanted.y_symmetric wanted.orient orient → IsTrue (is_upright orient)
    fits_upright orient takes =
        fitting_upright row.orient wanted.y_symmetric orient row_is.upright (takes_fits row.orient wanted.y_symmetric wanted.orient orient takes)

    pub just_where : (first : ℕ) (place : Place) → place.at ≡ record { x = row.at.x +ℤ pos first *ℤ asks.site.size.width; y = row.at.y }
        → IsTrue (is_upright place.orient) → AreFreeSites list wanted.many first ↔
        ((pos (first + wanted.many) ≤ℤ row.count) × IsClear design.die (Contains boxes) (placed_box asks.master.size place))
    just_where first place at upright =
        free_just_where_macro_clear row asks.site.size asks.master.size wanted.many asks.area.area asks.has_area.area asks.wide asks.high
        design.die (Contains boxes) list list_known first place at upright

  -- where the first of some sites of the row begins is a point that a DEF may have
  pub position_of : (number : ℕ) (row : Row) (there : slice_get design.rows number ≡ Some row) (same : row.site ≡ wanted.site) (list : List Stretch)
      (listed : slice_get free.lists number ≡ Some list) (first : ℕ) → AreFreeSites list wanted.many first → (place : Place)
      → place.at ≡ record { x = row.at.x +ℤ pos first *ℤ wanted.site_width; y = row.at.y } → IsPosition place.at
  position_of number row there same list listed first sites place at =
      let row_is : IsRow design.library row = all_at (IsRow design.library) design.rows number row proper.rows there in
      rw at (record {
        x = site_within number row there same list listed first (sites first (omega arith) (omega (arith, some_many)));
        y = row_is.at.y;
      })

  -- a candidate is a free position
  module _ (k : Candidate) (is : IsCandidate design.rows free.lists wanted k) (place : Place)
      (at : place.at ≡ record { x = is.row.at.x +ℤ pos k.first *ℤ wanted.site_width; y = is.row.at.y })
      (takes : Takes is.row.orient wanted.y_symmetric wanted.orient place.orient) where
    at_site : place.at ≡ record { x = is.row.at.x +ℤ pos k.first *ℤ asks.site.size.width; y = is.row.at.y }
    at_site = at ∙ (λ i. record { x = is.row.at.x +ℤ pos k.first *ℤ asks.site_width i; y = is.row.at.y })

    clear_there : (pos (k.first + wanted.many) ≤ℤ is.row.count) × IsClear design.die (Contains boxes) (placed_box asks.master.size place)
    clear_there =
        (just_where k.row is.row is.there is.same is.stretches is.known k.first place at_site
        (fits_upright k.row is.row is.there is.same is.stretches is.known place.orient takes)).0 is.sites

    taken_orient : Takes is.row.orient asks.master.y_symmetric (orient_if_placed asks.component.place) place.orient
    taken_orient = rw (asks.y_symmetric, asks.orient) at takes

    distance_is : k.distance ≡ distance place.at (start_of design.die asks.component.place)
    distance_is = is.distance ∙ (λ i. apart ((sym at) i).x (asks.start i).x + apart ((sym at) i).y (asks.start i).y)

    pub free_from_candidate : IsFreeOf design boxes c k place
    free_from_candidate = record {
      stands = record {
        component = asks.component;
        there = asks.there;
        master = asks.master;
        is_master = asks.is_master;
        row = is.row;
        is_row = is.there;
        same = asks.same ∙ ap (λ s. Some s) (sym is.same);
        site = asks.site;
        is_site = rw is.same asks.is_site;
        high = asks.high;
        many = wanted.many;
        some = some_many;
        wide = asks.wide;
        within = clear_there.0;
        at = at_site;
        takes = taken_orient;
        distance = distance_is;
        turned = rw (asks.y_symmetric, asks.orient) at is.turned;
      };
      clear = clear_there.1;
    }

  -- and a free position is a candidate
  module _ (k : Candidate) (place : Place) (f : IsFreeOf design boxes c k place) where
    s_component : f.stands.component ≡ asks.component
    s_component = same_Some f.stands.component asks.component (sym f.stands.there ∙ asks.there)

    s_master : f.stands.master ≡ asks.master
    s_master =
        let told = rw s_component at f.stands.is_master in
        same_Some f.stands.master asks.master (sym told ∙ asks.is_master)

    s_same : f.stands.row.site ≡ wanted.site
    s_same =
        let told = rw s_master at f.stands.same in
        same_Some f.stands.row.site wanted.site (sym told ∙ asks.same)

    s_site : f.stands.site ≡ asks.site
    s_site =
        let told = rw s_same at f.stands.is_site in
        same_Some f.stands.site asks.site (sym told ∙ asks.is_site)

    s_many : f.stands.many ≡ wanted.many
    s_many =
        let wide : asks.master.size.width ≡ pos f.stands.many *ℤ asks.site.size.width = rw (s_master, s_site) at f.stands.wide in
        let first : pos f.stands.many *ℤ asks.site.size.width ≡ pos (f.stands.many * n) = wide_by f.stands.many in
        let second : pos wanted.many *ℤ asks.site.size.width ≡ pos (wanted.many * n) = wide_by wanted.many in
        let some : 0 < n = omega (arith, ints, asks.area.area.wide) in
        same_many f.stands.many wanted.many n some (omega (arith, ints, wide, asks.wide, first, second))

    s_at : place.at ≡ record { x = f.stands.row.at.x +ℤ pos k.first *ℤ asks.site.size.width; y = f.stands.row.at.y }
    s_at = f.stands.at ∙ (λ i. record { x = f.stands.row.at.x +ℤ pos k.first *ℤ (s_site i).size.width; y = f.stands.row.at.y })

    s_takes : Takes f.stands.row.orient wanted.y_symmetric wanted.orient place.orient
    s_takes =
        let told : Takes f.stands.row.orient asks.master.y_symmetric (orient_if_placed asks.component.place) place.orient =
        rw (s_master, s_component) at f.stands.takes in
        rw (asks.y_symmetric, asks.orient) told

    s_turned : IsTrue k.turned ↔ IsTurned f.stands.row.orient wanted.y_symmetric wanted.orient
    s_turned =
        let told : IsTrue k.turned ↔ IsTurned f.stands.row.orient asks.master.y_symmetric (orient_if_placed asks.component.place) =
        rw (s_master, s_component) at f.stands.turned in
        rw (asks.y_symmetric, asks.orient) told

    s_within : pos (k.first + wanted.many) ≤ℤ f.stands.row.count
    s_within = rw s_many at f.stands.within

    s_clear : IsClear design.die (Contains boxes) (placed_box asks.master.size place)
    s_clear = rw s_master at f.clear

    s_number : k.row < length free.lists
    s_number = rw known.rows.lists (slice_get_within design.rows k.row f.stands.row f.stands.is_row)

    abbrev list : List Stretch
    list = get_or free.lists k.row []

    s_listed : slice_get free.lists k.row ≡ Some list
    s_listed = slice_get-get_or free.lists k.row [] s_number

    s_distance : k.distance ≡ apart (f.stands.row.at.x +ℤ pos k.first *ℤ wanted.site_width) wanted.start.x + apart f.stands.row.at.y wanted.start.y
    s_distance =
        let start : start_of design.die f.stands.component.place ≡ wanted.start =
        ap (λ (x : Component). start_of design.die x.place) s_component ∙ sym asks.start in
        let by : asks.site.size.width ≡ wanted.site_width = sym asks.site_width in
        f.stands.distance
        ∙ (λ i. apart (s_at i).x (start i).x + apart (s_at i).y (start i).y)
        ∙ (λ i. apart (f.stands.row.at.x +ℤ pos k.first *ℤ by i) wanted.start.x + apart f.stands.row.at.y wanted.start.y)

    pub candidate_from_free : IsCandidate design.rows free.lists wanted k
    candidate_from_free = record {
      row = f.stands.row;
      there = f.stands.is_row;
      same = s_same;
      stretches = list;
      known = s_listed;
      sites =
          (just_where k.row f.stands.row f.stands.is_row s_same list s_listed k.first place s_at
          (fits_upright k.row f.stands.row f.stands.is_row s_same list s_listed place.orient s_takes)).1 (s_within, s_clear);
      distance = s_distance;
      turned = s_turned;
    }

  -- the best candidate has the best place
  pub none_best : ((k : Candidate) → IsCandidate design.rows free.lists wanted k → ⊥) → IsBestPlace design boxes c None
  none_best none = λ k place f. none k (candidate_from_free k place f)

  pub best_is : (k : Candidate) (is : IsCandidate design.rows free.lists wanted k)
      → ((other : Candidate) → IsCandidate design.rows free.lists wanted other → IsNoWorse k other) → (place : Place)
      → place.at ≡ record { x = is.row.at.x +ℤ pos k.first *ℤ wanted.site_width; y = is.row.at.y }
      → Takes is.row.orient wanted.y_symmetric wanted.orient place.orient → IsBestPlace design boxes c (Some place)
  best_is k is least place at takes = record {
    position = k;
    free = free_from_candidate k is place at takes;
    best = λ other there f. least other (candidate_from_free other there f);
  }

  -- what the search asks of the lists
  pub ready : AreReady design.rows free.lists wanted
  ready = record {
    lists = known.rows.lists;
    some = some_many;
    wide = site_wide;
    within = λ number row list there same listed k site.
        let number_is : IsNumber (row.at.x +ℤ pos k *ℤ wanted.site_width) = site_within number row there same list listed k site in
        omega (arith, number_is);
  }
