-- The best free position of a component, or that none is free: each position can be told free or not, and they are finitely many.
use Rattle.std.proofs.Common.{◌≡◌, ◌⊎◌, ◌↔◌, ℕ, zero, suc, ◌+◌, ◌*◌, ◌<◌, ◌≤◌, pos, ◌+ℤ◌, ◌*ℤ◌, ◌≤ℤ◌, unsigned_abs, Bool, true, false, IsTrue, Option, None, Some, List, length, slice_get, Contains, inl, inr, refl, sym, ap, subst, ◌∙◌, arith}
use Rattle.std.proofs.Math.IntN.{pos-*ℤ-pos}
use Rattle.std.specs.Cmp.{both_ways}
use Rattle.std.proofs.lemmas.Bool.{cases_lt, cases_eq, cases_order, false≢true}
use Rattle.std.proofs.lemmas.Int.{ints, by_lt_z}
use Rattle.std.proofs.lemmas.Option.{same_Some, slice_get_within}
use Rattle.leg_lemmas.proofs.Places.{contains_at, all_at}
use Rattle.leg_geom.specs.Plane.{RectModel, ShareSquare}
use Rattle.leg_geom.proofs.Gaps.{ShareSquare-symmetric}
use Rattle.leg_geom.specs.declared.orient.Orient.{Orient}
use Rattle.leg_geom.specs.declared.place.Place.{Place}
use Rattle.leg_lib_records.specs.declared.records.Site.{Site}
use Rattle.leg_lib_records.specs.Measure.{ExtentModel, HasArea, IsExtent}
use Rattle.leg_lib_records.specs.Records.{MasterModel}
use Rattle.leg_design_records.specs.Records.{DesignModel, placement_rects}
use Rattle.leg_design_records.specs.declared.records.Row.{Row}
use Rattle.leg_rules.specs.Placement.Box.{placed_box, HasBox}
use Rattle.leg_legal_sites.specs.Steps.BestPosition.{IsBestOf, IsBetterOf}
use Rattle.leg_rules.specs.Legalise.Preference.{IsTurned, IsNoWorse}
use Rattle.leg_rules.specs.Legalise.Clear.{IsClear}
use Rattle.leg_rules.specs.declared.position.Candidate.{Candidate}
use Rattle.leg_legal_sites.proofs.BestSoFar.{no_worse_itself, best_of_both, best_of_same}
use Rattle.leg_legal_sites.proofs.MacroPlaces.{some_sites}
use Rattle.leg_design_records.specs.Movable.{IsMovable}
use Rattle.leg_rules.specs.Legalise.Start.{start_of, distance}
use Rattle.leg_rules.specs.Legalise.Places.{orient_if_placed, Takes, IsPlacedOn}
use Rattle.leg_rules.specs.Legalise.Free.{IsSettled, IsTaken, IsFree, TakesBest}
use Rattle.leg_rules.specs.Legalise.Refusals.{HasRowFor}
use Rattle.leg_legal.specs.FreePlaces.{HasMacroSizes}
use Rattle.leg_design_records.proofs.MovableOrNot.{movable_or_not}
use Rattle.leg_legal.proofs.OnRow.{HasSoundRows}
use Rattle.leg_legal.proofs.BestSeat.{same_many}
use Rattle.leg_legal.proofs.OneRun.{one_orient}
use Rattle.leg_legal.proofs.Decisions.{HoldsOrNot, either_or_not, never_or_not, some_below, there_or_not, contains_or_not}
use Rattle.leg_legal.proofs.Squares.{share_or_not, missing_or_all}
use Rattle.leg_legal.proofs.Orientations.{turned_or_not, taken_orient}
use Rattle.leg_legal.proofs.RowTests.{row_for_or_not}
use Rattle.leg_legal.proofs.FaultTests.{box_or_not, one_box, meets_or_not}
use Rattle.leg_legal.proofs.FreePlaces.{flag_of}

-- of two positions one is no worse
no_worse_or : (c d : Candidate) → IsNoWorse c d ⊎ IsNoWorse d c
no_worse_or c d =
    elim (cases_order c.distance d.distance) [
      | inr (inl below) ↦ inl (nearer c d below)
      | inr (inr above) ↦ inr (nearer d c above)
      | inl tie ↦ flags c.turned d.turned refl refl tie
    ] where
      nearer : (a b : Candidate) → a.distance < b.distance → IsNoWorse a b
      nearer a b below = record {
        distance = omega arith;
        turned = λ same t. absurd (omega arith);
        row = λ same turn. absurd (omega arith);
        first = λ same turn level. absurd (omega arith);
      }

      straight : (a b : Candidate) → a.distance ≡ b.distance → a.turned ≡ false → b.turned ≡ true → IsNoWorse a b
      straight a b tie kept changed = record {
        distance = omega arith;
        turned = λ same t. changed;
        row = λ same turn. absurd (false≢true (sym kept ∙ turn ∙ changed));
        first = λ same turn level. absurd (false≢true (sym kept ∙ turn ∙ changed));
      }

      lower : (a b : Candidate) → a.distance ≡ b.distance → a.turned ≡ b.turned → a.row < b.row → IsNoWorse a b
      lower a b tie alike below = record {
        distance = omega arith;
        turned = λ same t. sym alike ∙ t;
        row = λ same turn. omega arith;
        first = λ same turn level. absurd (omega arith);
      }

      left : (a b : Candidate) → a.distance ≡ b.distance → a.turned ≡ b.turned → a.row ≡ b.row → a.first ≤ b.first → IsNoWorse a b
      left a b tie alike level upto = record {
        distance = omega arith;
        turned = λ same t. sym alike ∙ t;
        row = λ same turn. omega arith;
        first = λ same turn also. upto;
      }

      level : c.distance ≡ d.distance → c.turned ≡ d.turned → IsNoWorse c d ⊎ IsNoWorse d c
      level tie alike =
          elim (cases_order c.row d.row) [
            | inr (inl below) ↦ inl (lower c d tie alike below)
            | inr (inr above) ↦ inr (lower d c (sym tie) (sym alike) above)
            | inl same ↦ elim (cases_lt d.first c.first) [
              | inl right ↦ inr (left d c (sym tie) (sym alike) (sym same) (omega arith))
              | inr upto ↦ inl (left c d tie alike same upto)
            ]
          ]

      flags : (s t : Bool) → c.turned ≡ s → d.turned ≡ t → c.distance ≡ d.distance → IsNoWorse c d ⊎ IsNoWorse d c
      flags true true c_is d_is tie = level tie (c_is ∙ sym d_is)
      flags false false c_is d_is tie = level tie (c_is ∙ sym d_is)
      flags false true c_is d_is tie = inl (straight c d tie c_is d_is)
      flags true false c_is d_is tie = inr (straight d c (sym tie) d_is c_is)

better_of : (a b : Option Candidate) → (r : Option Candidate) × IsBetterOf a b r
better_of None b = (b, refl)
better_of (Some c) None = (Some c, refl)
better_of (Some c) (Some d) =
    elim (no_worse_or c d) [
      | inl first ↦ (Some c, inl (refl, first))
      | inr second ↦ (Some d, inr (refl, second))
    ]

-- there is a best position with a property, or none has it
abbrev HasBest : (Candidate → Type 0) → Type 0
HasBest P = (best : Option Candidate) × IsBestOf P best

best_of_none : (P : Candidate → Type 0) → ((k : Candidate) → P k → ⊥) → HasBest P
best_of_none P none = (None, none)

best_of_one : (P : Candidate → Type 0) (k : Candidate) → P k → ((other : Candidate) → P other → other ≡ k) → HasBest P
best_of_one P k p only = (Some k, (p, λ other q. subst (λ (o : Candidate). IsNoWorse k o) (sym (only other q)) (no_worse_itself k)))

-- a position has one of the properties that numbers below the end give
record HasBelow (P : ℕ → Candidate → Type 0) (end : ℕ) (k : Candidate) : Type 0 where
  number : ℕ
  below : number < end
  has : P number k

best_below : (P : ℕ → Candidate → Type 0) → ((number : ℕ) → HasBest (P number)) → (end : ℕ) → HasBest (HasBelow P end)
best_below P each zero = best_of_none (HasBelow P zero) (λ k h. let below = h.below in omega arith)
best_below P each (suc end) =
    let earlier = best_below P each end in
    let here = each end in
    let better = better_of earlier.0 here.0 in (
      better.0,
      best_of_both (HasBelow P end) (P end) (HasBelow P (suc end))
          (λ k h. record { number = h.number; below = (let below = h.below in omega arith); has = h.has })
          (λ k p. record { number = end; below = omega arith; has = p })
          (λ k h. elim (cases_lt h.number end) [
            | inl before ↦ inl (record { number = h.number; below = before; has = h.has })
            | inr late ↦ let same : h.number ≡ end = (let below = h.below in omega arith) in inr (subst (λ (n : ℕ). P n k) same h.has)
          ])
          earlier.0 here.0 better.0 earlier.1 here.1 better.1,
    )

-- Whether a box is clear
module _ (design : DesignModel) (done : List ℕ) where
  settled_or_not : (d : ℕ) → HoldsOrNot (IsSettled design done d)
  settled_or_not d = either_or_not (never_or_not (movable_or_not design d)) (contains_or_not done d)

  -- component d is settled and shares a unit square with the box
  record IsInTheWay (box : RectModel) (d : ℕ) : Type 0 where
    settled : IsSettled design done d
    other : RectModel
    stands : HasBox design d other
    shared : ShareSquare other box

  in_the_way_or_not : (box : RectModel) (d : ℕ) → HoldsOrNot (IsInTheWay box d)
  in_the_way_or_not box d =
      elim (settled_or_not d) [
        | inr never ↦ inr (λ w. never w.settled)
        | inl settled ↦ elim (box_or_not design d) [
          | inr none ↦ inr (λ w. none (w.other, w.stands))
          | inl (other, stands) ↦ elim (share_or_not other box) [
            | inl shared ↦ inl (record { settled = settled; other = other; stands = stands; shared = shared })
            | inr never ↦ inr (λ w. never (let same : w.other ≡ other = one_box design d w.other other w.stands stands in rw same at w.shared))
          ]
        ]
      ]

  pub clear_or_not : (box : RectModel) → HoldsOrNot (IsClear design.die (IsTaken design done) box)
  clear_or_not box =
      elim (missing_or_all design.die box) [
        | inl missing ↦ inr (λ c. missing.outside (c.inside missing.square missing.inside))
        | inr inside ↦ elim (some_below (IsInTheWay box) (in_the_way_or_not box) (length design.components)) [
          | inl (d, below, w) ↦ inr (λ c. c.alone w.other (inl (record { d = d; settled = w.settled; stands = w.stands })) w.shared)
          | inr none ↦ elim (meets_or_not design box) [
            | inl (rect, blocks, shared) ↦ inr (λ c. c.alone rect (inr blocks) (ShareSquare-symmetric box rect shared))
            | inr never ↦ inl (record { inside = inside; alone = none_shares box none never })
          ]
        ]
      ] where
        none_shares : (box : RectModel) → ((d : ℕ) × (d < length design.components) × IsInTheWay box d → ⊥)
            → ((rect : RectModel) × Contains (placement_rects design.blockages) rect × ShareSquare box rect → ⊥)
            → (other : RectModel) → IsTaken design done other → ShareSquare other box → ⊥
        none_shares box none never other (inl taken) shared =
            none (
              taken.d,
              slice_get_within design.components taken.d taken.stands.component taken.stands.there,
              record { settled = taken.settled; other = other; stands = taken.stands; shared = shared },
            )
        none_shares box none never other (inr blocks) shared = never (other, blocks, ShareSquare-symmetric other box shared)

-- the positions of a movable component
module _ (design : DesignModel) (sound : HasSoundRows design) (sized : HasMacroSizes design.library) (done : List ℕ) (c : ℕ) (m : IsMovable design c) where
  has_area : HasArea m.master.size
  has_area = (all_at (λ (x : MasterModel). IsExtent x.size) design.library.masters m.component.master m.master sized m.is_master).area

  -- what any of them has to do with the component
  module _ (k : Candidate) (place : Place) (s : IsPlacedOn design c k place) where
    s_component : s.component ≡ m.component
    s_component = same_Some s.component m.component (sym s.there ∙ m.there)

    s_master : s.master ≡ m.master
    s_master =
        let told : slice_get design.library.masters m.component.master ≡ Some s.master = rw s_component at s.is_master in
        same_Some s.master m.master (sym told ∙ m.is_master)

    s_number : s.row.site ≡ m.number
    s_number =
        let told : m.master.site ≡ Some s.row.site = rw s_master at s.same in
        same_Some s.row.site m.number (sym told ∙ m.site)

    s_row_for : HasRowFor design m.master.size m.number
    s_row_for = record {
      site = s.site;
      is_site = rw s_number at s.is_site;
      fits = record { high = rw s_master at s.high; many = s.many; wide = rw s_master at s.wide };
      row = s.row;
      has = contains_at design.rows k.row s.row s.is_row;
      same = s_number;
    }

  -- where its macro fits some row
  module _ (h : HasRowFor design m.master.size m.number) where
    abbrev size : ExtentModel
    size = h.site.size

    abbrev many : ℕ
    many = h.fits.many

    area : HasArea h.site.size
    area = (all_at (λ (x : Site). IsExtent x.size) design.library.sites m.number h.site sound.sites h.is_site).area

    some : 1 ≤ many
    some = some_sites h.row h.site.size m.master.size many area has_area h.fits.wide h.fits.high

    module _ (k : Candidate) (place : Place) (s : IsPlacedOn design c k place) where
      s_site : s.site ≡ h.site
      s_site =
          let told : slice_get design.library.sites m.number ≡ Some s.site = rw (s_number k place s) at s.is_site in
          same_Some s.site h.site (sym told ∙ h.is_site)

      s_many : s.many ≡ many
      s_many =
          let n : ℕ = unsigned_abs h.site.size.width in
          let width : h.site.size.width ≡ pos n = omega (arith, ints, area.wide) in
          let wide : m.master.size.width ≡ pos s.many *ℤ h.site.size.width = rw (s_master k place s, s_site) at s.wide in
          let first : pos s.many *ℤ h.site.size.width ≡ pos (s.many * n) = ap (λ w. pos s.many *ℤ w) width ∙ pos-*ℤ-pos s.many n in
          let second : pos many *ℤ h.site.size.width ≡ pos (many * n) = ap (λ w. pos many *ℤ w) width ∙ pos-*ℤ-pos many n in
          same_many s.many many n (omega (arith, ints, area.wide)) (omega (arith, ints, wide, h.fits.wide, first, second))

      s_within : pos (k.first + many) ≤ℤ s.row.count
      s_within = rw s_many at s.within

    -- the position on a row from this site on
    module _ (number : ℕ) (row : Row) (is_row : slice_get design.rows number ≡ Some row) (same : row.site ≡ m.number) (first : ℕ)
        (within : pos (first + many) ≤ℤ row.count) where
      orient : (orient : Orient) × Takes row.orient m.master.y_symmetric (orient_if_placed m.component.place) orient
      orient = taken_orient row.orient m.master.y_symmetric (orient_if_placed m.component.place)

      flag : (flag : Bool) × (IsTrue flag ↔ IsTurned row.orient m.master.y_symmetric (orient_if_placed m.component.place))
      flag = flag_of (turned_or_not row.orient m.master.y_symmetric (orient_if_placed m.component.place))

      place_there : Place
      place_there = record { at = record { x = row.at.x +ℤ pos first *ℤ h.site.size.width; y = row.at.y }; orient = orient.0 }

      position_there : Candidate
      position_there = record { distance = distance place_there.at (start_of design.die m.component.place); turned = flag.0; row = number; first = first }

      stands_there : IsPlacedOn design c position_there place_there
      unfolding position_there place_there
      stands_there = record {
        component = m.component;
        there = m.there;
        master = m.master;
        is_master = m.is_master;
        row = row;
        is_row = is_row;
        same = m.site ∙ ap (λ s. Some s) (sym same);
        site = h.site;
        is_site = rw same h.is_site;
        high = h.fits.high;
        many = many;
        some = some;
        wide = h.fits.wide;
        within = within;
        at = refl;
        takes = orient.1;
        distance = refl;
        turned = flag.1;
      }

      -- no other position of the row begins there
      module _ (k : Candidate) (place : Place) (s : IsPlacedOn design c k place) (at_row : k.row ≡ number) (at_first : k.first ≡ first) where
        s_row : s.row ≡ row
        s_row = same_Some s.row row (sym s.is_row ∙ ap (slice_get design.rows) at_row ∙ is_row)

        s_at : place.at ≡ record { x = row.at.x +ℤ pos first *ℤ h.site.size.width; y = row.at.y }
        s_at = s.at ∙ (λ i. record { x = (s_row i).at.x +ℤ pos (at_first i) *ℤ (s_site k place s i).size.width; y = (s_row i).at.y })

        s_orient : place.orient ≡ orient.0
        s_orient =
            let takes : Takes row.orient m.master.y_symmetric (orient_if_placed m.component.place) place.orient =
            rw (s_row, s_master k place s, s_component k place s) at s.takes in
            one_orient row.orient m.master.y_symmetric (orient_if_placed m.component.place) place.orient orient.0 takes orient.1

        s_place : place ≡ place_there
        unfolding place_there
        s_place = λ i. record { at = s_at i; orient = s_orient i }

        s_distance : k.distance ≡ distance place_there.at (start_of design.die m.component.place)
        unfolding place_there
        s_distance = s.distance ∙ (λ i. distance (s_at i) (start_of design.die (s_component k place s i).place))

        s_turned : k.turned ≡ flag.0
        s_turned =
            let told : IsTrue k.turned ↔ IsTurned row.orient m.master.y_symmetric (orient_if_placed m.component.place) =
            rw (s_row, s_master k place s, s_component k place s) at s.turned in
            both_ways k.turned flag.0 (λ t. flag.1.1 (told.0 t)) (λ t. told.1 (flag.1.0 t))

        s_position : k ≡ position_there
        unfolding position_there
        s_position = λ i. record { distance = s_distance i; turned = s_turned i; row = at_row i; first = at_first i }

        s_clear : (P : RectModel → Type 0) → P (placed_box s.master.size place) → P (placed_box m.master.size place_there)
        s_clear P p =
            let same : placed_box s.master.size place ≡ placed_box m.master.size place_there = λ i. placed_box (s_master k place s i).size (s_place i) in
            subst P same p

    -- a free position begins at this site of the row of this number
    record IsFreeFrom (number first : ℕ) (k : Candidate) : Type 0 where
      row : k.row ≡ number
      first_is : k.first ≡ first
      place : Place
      free : IsFree design done c k place

    module _ (number : ℕ) (row : Row) (is_row : slice_get design.rows number ≡ Some row) where
      row_of : (k : Candidate) (place : Place) (s : IsPlacedOn design c k place) → k.row ≡ number → s.row ≡ row
      row_of k place s at_row = same_Some s.row row (sym s.is_row ∙ ap (slice_get design.rows) at_row ∙ is_row)

      at_place : (same : row.site ≡ m.number) (first : ℕ) (within : pos (first + many) ≤ℤ row.count)
          → IsClear design.die (IsTaken design done) (placed_box m.master.size (place_there number row is_row same first within))
          → IsFreeFrom number first (position_there number row is_row same first within)
      unfolding position_there stands_there
      at_place same first within clear = record {
        row = refl;
        first_is = refl;
        place = place_there number row is_row same first within;
        free = record { stands = stands_there number row is_row same first within; clear = clear };
      }

      best_within : (same : row.site ≡ m.number) (first : ℕ) → pos (first + many) ≤ℤ row.count → HasBest (IsFreeFrom number first)
      best_within same first within =
          let k : Candidate = position_there number row is_row same first within in
          let place : Place = place_there number row is_row same first within in
          elim (clear_or_not design done (placed_box m.master.size place)) [
            | inl clear ↦
                best_of_one (IsFreeFrom number first) k (at_place same first within clear)
                (λ other f. s_position number row is_row same first within other f.place f.free.stands f.row f.first_is)
            | inr never ↦
                best_of_none (IsFreeFrom number first)
                (λ other f. never (s_clear number row is_row same first within other f.place f.free.stands f.row f.first_is
                (IsClear design.die (IsTaken design done)) f.free.clear))
          ]

      best_from : (first : ℕ) → HasBest (IsFreeFrom number first)
      best_from first =
          elim (cases_eq row.site m.number) [
            | inr differ ↦ best_of_none (IsFreeFrom number first) (λ k f.
                let one : f.free.stands.row ≡ row = row_of k f.place f.free.stands f.row in
                differ (rw one at (s_number k f.place f.free.stands)))
            | inl same ↦ by_lt_z row.count (pos (first + many))
                (λ beyond. best_of_none (IsFreeFrom number first) (λ k f.
                let one : f.free.stands.row ≡ row = row_of k f.place f.free.stands f.row in
                let upto : pos (k.first + many) ≤ℤ row.count = rw one at (s_within k f.place f.free.stands) in
                let here : pos (first + many) ≤ℤ row.count = rw f.first_is at upto in
                omega (arith, ints, beyond, here)))
                (λ within. best_within same first within)
          ]

    -- a free position is in the row of this number
    record IsFreeIn (number : ℕ) (k : Candidate) : Type 0 where
      row : k.row ≡ number
      place : Place
      free : IsFree design done c k place

    best_in : (number : ℕ) → HasBest (IsFreeIn number)
    best_in number =
        elim (there_or_not design.rows number) [
          | inr none ↦ best_of_none (IsFreeIn number) (λ k f. none (f.free.stands.row, rw f.row at f.free.stands.is_row))
          | inl (row, is_row) ↦
              let found = best_below (IsFreeFrom number) (best_from number row is_row) (unsigned_abs row.count) in (
                found.0,
                best_of_same (HasBelow (IsFreeFrom number) (unsigned_abs row.count)) (IsFreeIn number)
                    (λ k b. record { row = b.has.row; place = b.has.place; free = b.has.free })
                    (λ k f. record {
                      number = k.first;
                      below = below_count number row is_row k f;
                      has = record { row = f.row; first_is = refl; place = f.place; free = f.free };
                    })
                    found.0 found.1,
              )
        ] where
          below_count : (number : ℕ) (row : Row) → slice_get design.rows number ≡ Some row → (k : Candidate) → IsFreeIn number k
              → k.first < unsigned_abs row.count
          below_count number row is_row k f =
              let one : f.free.stands.row ≡ row = row_of number row is_row k f.place f.free.stands f.row in
              let upto : pos (k.first + many) ≤ℤ row.count = rw one at (s_within k f.place f.free.stands) in
              omega (arith, ints, upto, some)

    -- a position is free with some place
    record IsFreeSomewhere (k : Candidate) : Type 0 where
      place : Place
      free : IsFree design done c k place

    best_free : HasBest IsFreeSomewhere
    best_free =
        let found = best_below IsFreeIn best_in (length design.rows) in (
          found.0,
          best_of_same (HasBelow IsFreeIn (length design.rows)) IsFreeSomewhere
              (λ k b. record { place = b.has.place; free = b.has.free })
              (λ k f. record {
                number = k.row;
                below = slice_get_within design.rows k.row f.free.stands.row f.free.stands.is_row;
                has = record { row = refl; place = f.place; free = f.free };
              })
              found.0 found.1,
        )

    takes_by : (best : Option Candidate) → IsBestOf IsFreeSomewhere best
        → ((place : Place) × TakesBest design done c place) ⊎ ((position : Candidate) (place : Place) → IsFree design done c position place → ⊥)
    takes_by None none = inr (λ position place free. none position (record { place = place; free = free }))
    takes_by (Some k) is = inl (
      is.0.place,
      record { position = k; free = is.0.free; best = λ other at free. is.1 other (record { place = at; free = free }) },
    )

  -- it takes the best free position, or none is free
  pub takes_or_full : ((place : Place) × TakesBest design done c place) ⊎ ((position : Candidate) (place : Place) → IsFree design done c position place → ⊥)
  takes_or_full =
      elim (row_for_or_not design sound m.master.size has_area m.number) [
        | inr never ↦ inr (λ position place free. never (s_row_for position place free.stands))
        | inl h ↦ let found = best_free h in takes_by h found.0 found.1
      ]
