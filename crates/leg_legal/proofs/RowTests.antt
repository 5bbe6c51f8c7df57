-- Whether a macro at a place is on sites of a row, and whether it fits some row.
use Rattle.std.proofs.lemmas.List.Elements.{All-contains}
use Rattle.std.proofs.Common.{◌≡◌, ℕ, ◌+◌, ◌<◌, ℤ, pos, ◌+ℤ◌, ◌*ℤ◌, ◌≤ℤ◌, ◌%◌, unsigned_abs, List, length, Some, slice_get, Contains, inl, inr, sym, subst, ◌∙◌, arith, ◌⊎◌, ◌<ℤ◌}
use Rattle.std.proofs.lemmas.Bool.{cases_eq}
use Rattle.std.proofs.lemmas.Int.{ints, by_lt_z}
use Rattle.std.proofs.lemmas.Option.{same_Some, slice_get_within}
use Rattle.leg_lemmas.proofs.Places.{contains_at, all_at, place_of_contained}
use Rattle.leg_geom.specs.Plane.{RectModel}
use Rattle.leg_geom.specs.declared.place.Place.{Place}
use Rattle.leg_lib_records.specs.declared.records.Site.{Site}
use Rattle.leg_lib_records.specs.Measure.{ExtentModel, HasArea, IsExtent}
use Rattle.leg_lib_records.specs.Records.{MasterModel}
use Rattle.leg_design_records.specs.Records.{DesignModel}
use Rattle.leg_design_records.specs.WellFormedParts.{IsRow}
use Rattle.leg_design_records.specs.declared.records.Row.{Row}
use Rattle.leg_rules.specs.Placement.Box.{placed_box}
use Rattle.leg_rules.specs.Placement.Sites.{IsOnSites, IsOnRow}
use Rattle.leg_place.proofs.OnSites.{IsEdge, on_sites_from_edges, level_from_on_sites, left_from_on_sites, right_from_on_sites, IsWide}
use Rattle.leg_rules.specs.Legalise.Refusals.{FitsSites, HasRowFor}
use Rattle.leg_legal.proofs.OnRow.{HasSoundRows}
use Rattle.leg_legal.proofs.Misfits.{fits_from_rest, rest_from_fits, no_row_unfit}
use Rattle.leg_legal.proofs.Decisions.{HoldsOrNot, by_other, same_or_not, there_or_not, some_below}
use Rattle.leg_legal.proofs.Orientations.{fits_or_not}

-- the element of this number has a property
StandsThere : {X : Type 0} → (X → Type 0) → List X → ℕ → Type 0
StandsThere {X} P xs k = (x : X) × (slice_get xs k ≡ Some x) × P x

-- an element of a list has a property, or none has
pub some_element : {X : Type 0} (P : X → Type 0) (xs : List X) → ((x : X) → Contains xs x → HoldsOrNot (P x)) → HoldsOrNot ((x : X) × Contains xs x × P x)
unfolding StandsThere
some_element {X} P xs each = by_other there back (some_below (StandsThere P xs) here_or_not (length xs)) where
  here_or_not : (k : ℕ) → HoldsOrNot (StandsThere P xs k)
  here_or_not k =
      elim (there_or_not xs k) [
        | inr none ↦ inr (λ here. none (here.0, here.1))
        | inl (x, is) ↦ elim (each x (contains_at xs k x is)) [
          | inl p ↦ inl (x, is, p)
          | inr never ↦ inr (λ here. let same : here.0 ≡ x = same_Some here.0 x (sym here.1 ∙ is) in never (subst P same here.2))
        ]
      ]

  there : (k : ℕ) × (k < length xs) × StandsThere P xs k → (x : X) × Contains xs x × P x
  there s = (s.2.0, contains_at xs s.0 s.2.0 s.2.1, s.2.2)

  back : (x : X) × Contains xs x × P x → (k : ℕ) × (k < length xs) × StandsThere P xs k
  back s = let at = place_of_contained xs s.0 s.1 in (at.k, slice_get_within xs at.k s.0 at.there, (s.0, at.there, s.2))

-- a site of the row begins or ends at this x, or none does
edge_or_not : (row : Row) (size : ExtentModel) (x : ℤ) → HoldsOrNot (IsEdge row size x)
edge_or_not row size x =
    by_other
    (λ s. record { k = s.0; is = s.2.0; within = s.2.1 })
    (λ (e : IsEdge row size x). (e.k, omega (arith, ints, e.within), (e.is, e.within)))
    (some_below (λ k. (x ≡ row.at.x +ℤ pos k *ℤ size.width) × (pos k ≤ℤ row.count)) each (unsigned_abs row.count + 1)) where
      each : (k : ℕ) → HoldsOrNot ((x ≡ row.at.x +ℤ pos k *ℤ size.width) × (pos k ≤ℤ row.count))
      each k =
          by_lt_z row.count (pos k)
          (λ beyond. inr (λ both. omega (arith, ints, beyond, both.1)))
          (λ within. elim (same_or_not x (row.at.x +ℤ pos k *ℤ size.width)) [
            | inl same ↦ inl (same, within)
            | inr differ ↦ inr (λ both. differ both.0)
          ])

-- a box is on sites of the row or not
module _ (row : Row) (size : ExtentModel) (area : HasArea size) (some : pos 1 ≤ℤ row.count) (box : RectModel) where
  -- one without a unit square is on none
  on_none : (box.x2 ≤ℤ box.x1) ⊎ (box.y2 ≤ℤ box.y1) → IsOnSites row size box
  on_none empty = record {
    first = 0;
    many = 0;
    within = omega (arith, ints, some);
    squares = λ square. (
      λ c. elim empty [
        | inl thin ↦ absurd (omega (arith, ints, thin, c.left, c.right))
        | inr flat ↦ absurd (omega (arith, ints, flat, c.bottom, c.top))
      ],
      λ s. absurd (omega (arith, s.below)),
    );
  }

  pub on_sites_or_not : HoldsOrNot (IsOnSites row size box)
  on_sites_or_not =
      by_lt_z box.x1 box.x2
      (λ wide. by_lt_z box.y1 box.y2
      (λ high. by_edges wide high)
      (λ flat. inl (on_none (inr flat))))
      (λ thin. inl (on_none (inl thin))) where
        by_edges : box.x1 <ℤ box.x2 → box.y1 <ℤ box.y2 → HoldsOrNot (IsOnSites row size box)
        by_edges wide high =
            let proper : IsWide box = record { wide = wide; high = high } in
            elim (same_or_not box.y1 row.at.y) [
              | inr differ ↦ inr (λ on. differ (level_from_on_sites row size box area proper on).bottom)
              | inl bottom ↦ elim (same_or_not box.y2 (row.at.y +ℤ size.height)) [
                | inr differ ↦ inr (λ on. differ (level_from_on_sites row size box area proper on).top)
                | inl top ↦ elim (edge_or_not row size box.x1) [
                  | inr none ↦ inr (λ on. none (left_from_on_sites row size box area proper on))
                  | inl left ↦ elim (edge_or_not row size box.x2) [
                    | inr none ↦ inr (λ on. none (right_from_on_sites row size box area proper on))
                    | inl right ↦ inl (on_sites_from_edges row size box area proper (record { bottom = bottom; top = top }) left right)
                  ]
                ]
              ]
            ]

module _ (design : DesignModel) (sound : HasSoundRows design) where
  site_area : (number : ℕ) (site : Site) → slice_get design.library.sites number ≡ Some site → HasArea site.size
  site_area number site is = (all_at (λ s. IsExtent s.size) design.library.sites number site sound.sites is).area

  pub on_row_or_not : (master : MasterModel) (number : ℕ) (place : Place) (row : Row) → Contains design.rows row
      → HoldsOrNot (IsOnRow design.library master number place row)
  on_row_or_not master number place row has =
      elim (cases_eq row.site number) [
        | inr differ ↦ inr (λ on. differ on.same)
        | inl same ↦ elim (there_or_not design.library.sites number) [
          | inr none ↦ inr (λ on. none (on.site, on.there))
          | inl (site, there) ↦ elim (fits_or_not row.orient master.y_symmetric place.orient) [
            | inr unfit ↦ inr (λ on. unfit on.fits)
            | inl fits ↦
                let is_row : IsRow design.library row = All-contains (IsRow design.library) design.rows row sound.rows has in
                elim (on_sites_or_not row site.size (site_area number site there) is_row.some (placed_box master.size place)) [
                  | inl sites ↦ inl (record { same = same; site = site; there = there; fits = fits; sites = sites })
                  | inr off ↦ inr (λ on. off (let one : on.site ≡ site = same_Some on.site site (sym on.there ∙ there) in rw one at on.sites))
                ]
          ]
        ]
      ]

  -- a macro of this size fits some row or not
  module _ (size : ExtentModel) (has_area : HasArea size) where
    fits_sites_or_not : (site : ExtentModel) → HasArea site → HoldsOrNot (FitsSites site size)
    fits_sites_or_not site area =
        elim (same_or_not size.height site.height) [
          | inr differ ↦ inr (λ fits. differ fits.high)
          | inl high ↦ elim (cases_eq (unsigned_abs size.width % unsigned_abs site.width) 0) [
            | inl none ↦ inl (fits_from_rest site size area has_area high none)
            | inr rest ↦ inr (λ fits. rest (rest_from_fits site size area has_area fits))
          ]
        ]

    pub row_for_or_not : (number : ℕ) → HoldsOrNot (HasRowFor design size number)
    row_for_or_not number =
        elim (there_or_not design.library.sites number) [
          | inr none ↦ inr (λ h. none (h.site, h.is_site))
          | inl (site, there) ↦ elim (fits_sites_or_not site.size (site_area number site there)) [
            | inr unfit ↦ inr (no_row_unfit design size number site there unfit)
            | inl fits ↦ elim (some_element (λ (row : Row). row.site ≡ number) design.rows (λ row has. cases_eq row.site number)) [
              | inl (row, has, same) ↦ inl (record { site = site; is_site = there; fits = fits; row = row; has = has; same = same })
              | inr none ↦ inr (λ h. none (h.row, h.has, h.same))
            ]
          ]
        ]
