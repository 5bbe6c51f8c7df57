-- Whether a violation of placement holds, and whether it names only components that stay.
use Rattle.leg_design_records.specs.Movable.{IsMovable}
use Rattle.std.proofs.Common.{◌≡◌, ℕ, Option, None, Some, slice_get, Contains, inl, inr, refl, sym, ◌∙◌, arith}
use Rattle.std.proofs.lemmas.Option.{same_Some, none-some}
use Rattle.leg_geom.specs.Plane.{RectModel, ShareSquare}
use Rattle.leg_geom.specs.declared.place.Place.{Place}
use Rattle.leg_lib_records.specs.Records.{MasterModel}
use Rattle.leg_design_records.specs.Records.{DesignModel, placement_rects}
use Rattle.leg_design_records.specs.declared.records.Component.{Component}
use Rattle.leg_design_records.specs.declared.fault.Fault.{Fault}
use Rattle.leg_design_records.specs.declared.fault.Fault.TheVariants.{Unplaced, Outside, OffSite, Overlap, Blocked}
use Rattle.leg_design_records.specs.Violation.{components_of}
use Rattle.leg_rules.specs.Placement.Box.{box_of, HasBox}
use Rattle.leg_rules.specs.Placement.Violations.{IsUnplaced, IsOutside, DoOverlap, IsBlocked, IsPlacementViolation}
use Rattle.leg_rules.specs.Placement.Violations.IsPlacementViolation.{unplaced, outside, off_site, overlap, blocked}
use Rattle.leg_rules.specs.Placement.Sites.{IsOnRow, IsOffSite}
use Rattle.leg_place.proofs.PlaceFaults.{kind_below, unplaced_there, outside_there, off_site_there, overlap_there, blocked_there}
use Rattle.leg_rules.specs.Legalise.Refusals.{IsStayingViolation}
use Rattle.leg_legal.proofs.OnRow.{HasSoundRows}
use Rattle.leg_design_records.proofs.MovableOrNot.{movable_or_not}
use Rattle.leg_legal.proofs.Decisions.{HoldsOrNot, by_other, both_or_not, never_or_not, less_or_not, some_or_not, there_or_not, all_or_not}
use Rattle.leg_legal.proofs.Squares.{share_or_not, missing_or_all}
use Rattle.leg_legal.proofs.RowTests.{some_element, on_row_or_not}

module _ (design : DesignModel) where
  -- a component is in a box, or in none
  pub box_or_not : (c : ℕ) → HoldsOrNot ((box : RectModel) × HasBox design c box)
  box_or_not c =
      elim (there_or_not design.components c) [
        | inr none ↦ inr (λ (box, s). none (s.component, s.there))
        | inl (component, there) ↦ elim (some_or_not (box_of design.library component)) [
          | inl (box, is) ↦ inl (box, record { component = component; there = there; placed = is })
          | inr none ↦
              inr (λ (box, s). none (box, (let same : s.component ≡ component = same_Some s.component component (sym s.there ∙ there) in rw same at s.placed)))
        ]
      ]

  -- and in one alone
  pub one_box : (c : ℕ) (a b : RectModel) → HasBox design c a → HasBox design c b → a ≡ b
  one_box c a b s t =
      let same : s.component ≡ t.component = same_Some s.component t.component (sym s.there ∙ t.there) in
      same_Some a b (sym (rw same at s.placed) ∙ t.placed)

  unplaced_or_not : (c : ℕ) → HoldsOrNot (IsUnplaced design c)
  unplaced_or_not c =
      elim (there_or_not design.components c) [
        | inr none ↦ inr (λ u. none (u.component, u.there))
        | inl (component, there) ↦ elim (some_or_not component.place) [
          | inl (place, is) ↦
              inr (λ u. none-some place (let same : u.component ≡ component = same_Some u.component component (sym u.there ∙ there) in
              sym (rw same at u.unplaced) ∙ is))
          | inr none ↦ inl (record { component = component; there = there; unplaced = none_is component.place none })
        ]
      ] where
        none_is : (o : Option Place) → ((place : Place) × (o ≡ Some place) → ⊥) → o ≡ None
        none_is None none = refl
        none_is (Some place) none = absurd (none (place, refl))

  outside_or_not : (c : ℕ) → HoldsOrNot (IsOutside design c)
  outside_or_not c =
      elim (box_or_not c) [
        | inr none ↦ inr (λ o. none (o.box, o.stands))
        | inl (box, stands) ↦ elim (missing_or_all design.die box) [
          | inl missing ↦ inl (record { box = box; stands = stands; square = missing.square; inside = missing.inside; outside = missing.outside })
          | inr all ↦ inr (λ o. o.outside (all o.square (let same : o.box ≡ box = one_box c o.box box o.stands stands in rw same at o.inside)))
        ]
      ]

  overlap_or_not : (a b : ℕ) → HoldsOrNot (DoOverlap design a b)
  overlap_or_not a b =
      elim (less_or_not a b) [
        | inr not_less ↦ inr (λ o. not_less o.in_order)
        | inl in_order ↦ elim (box_or_not a) [
          | inr none ↦ inr (λ o. none (o.box_a, o.stands_a))
          | inl (box_a, stands_a) ↦ elim (box_or_not b) [
            | inr none ↦ inr (λ o. none (o.box_b, o.stands_b))
            | inl (box_b, stands_b) ↦ elim (share_or_not box_a box_b) [
              | inl shared ↦ inl (record { in_order = in_order; box_a = box_a; box_b = box_b; stands_a = stands_a; stands_b = stands_b; shared = shared })
              | inr never ↦ inr (λ o. never (
                  let a_is : o.box_a ≡ box_a = one_box a o.box_a box_a o.stands_a stands_a in
                  let b_is : o.box_b ≡ box_b = one_box b o.box_b box_b o.stands_b stands_b in
                  rw (a_is, b_is) at o.shared))
            ]
          ]
        ]
      ]

  -- a rectangle of a placement blockage shares a unit square with the box, or none does
  pub meets_or_not : (box : RectModel) → HoldsOrNot ((rect : RectModel) × Contains (placement_rects design.blockages) rect × ShareSquare box rect)
  meets_or_not box = some_element (ShareSquare box) (placement_rects design.blockages) (λ rect has. share_or_not box rect)

  blocked_or_not : (c : ℕ) → HoldsOrNot (IsBlocked design c)
  blocked_or_not c =
      elim (movable_or_not design c) [
        | inr stays ↦ inr (λ b. stays b.movable)
        | inl movable ↦ elim (box_or_not c) [
          | inr none ↦ inr (λ b. none (b.box, b.stands))
          | inl (box, stands) ↦ elim (meets_or_not box) [
            | inl (rect, blocks, shared) ↦ inl (record { movable = movable; box = box; stands = stands; rect = rect; blocks = blocks; shared = shared })
            | inr never ↦ inr (λ b. never (
                let same : b.box ≡ box = one_box c b.box box b.stands stands in
                (b.rect, b.blocks, rw same at b.shared)))
          ]
        ]
      ]

  module _ (sound : HasSoundRows design) where
    off_site_or_not : (c : ℕ) → HoldsOrNot (IsOffSite design c)
    off_site_or_not c =
        elim (there_or_not design.components c) [
          | inr none ↦ inr (λ o. none (o.component, o.there))
          | inl (component, there) ↦ placed component there
        ] where
          on_some_row : (component : Component) (place : Place) (master : MasterModel) (number : ℕ) → slice_get design.components c ≡ Some component
              → component.place ≡ Some place → slice_get design.library.masters component.master ≡ Some master → master.site ≡ Some number
              → HoldsOrNot (IsOffSite design c)
          on_some_row component place master number there placed is_master site =
              elim (some_element (IsOnRow design.library master number place) design.rows (on_row_or_not design sound master number place)) [
                | inr none ↦ inl (record {
                  component = component;
                  there = there;
                  place = place;
                  placed = placed;
                  master = master;
                  is_master = is_master;
                  number = number;
                  site = site;
                  none = λ row has on. none (row, has, on);
                })
                | inl (row, has, on) ↦ inr (λ o.
                    let one : o.component ≡ component = same_Some o.component component (sym o.there ∙ there) in
                    let place_is : o.place ≡ place = same_Some o.place place (sym (rw one at o.placed) ∙ placed) in
                    let master_is : o.master ≡ master = same_Some o.master master (sym (rw one at o.is_master) ∙ is_master) in
                    let number_is : o.number ≡ number = same_Some o.number number (sym (rw master_is at o.site) ∙ site) in
                    o.none row has (rw (master_is, number_is, place_is) on))
              ]

          sited : (component : Component) (place : Place) (master : MasterModel) → slice_get design.components c ≡ Some component
              → component.place ≡ Some place → slice_get design.library.masters component.master ≡ Some master → HoldsOrNot (IsOffSite design c)
          sited component place master there is is_master =
              elim (some_or_not master.site) [
                | inl (number, site) ↦ on_some_row component place master number there is is_master site
                | inr none ↦ inr (λ o.
                    let one : o.component ≡ component = same_Some o.component component (sym o.there ∙ there) in
                    let master_is : o.master ≡ master = same_Some o.master master (sym (rw one at o.is_master) ∙ is_master) in
                    none (o.number, rw master_is at o.site))
              ]

          mastered : (component : Component) (place : Place) → slice_get design.components c ≡ Some component → component.place ≡ Some place
              → HoldsOrNot (IsOffSite design c)
          mastered component place there is =
              elim (there_or_not design.library.masters component.master) [
                | inl (master, is_master) ↦ sited component place master there is is_master
                | inr none ↦ inr (λ o.
                    let one : o.component ≡ component = same_Some o.component component (sym o.there ∙ there) in
                    none (o.master, rw one at o.is_master))
              ]

          placed : (component : Component) → slice_get design.components c ≡ Some component → HoldsOrNot (IsOffSite design c)
          placed component there =
              elim (some_or_not component.place) [
                | inl (place, is) ↦ mastered component place there is
                | inr none ↦ inr (λ o.
                    let one : o.component ≡ component = same_Some o.component component (sym o.there ∙ there) in
                    none (o.place, rw one at o.placed))
              ]

    -- a violation of placement holds or not
    pub holds_or_not : (fault : Fault) → HoldsOrNot (IsPlacementViolation design fault)
    holds_or_not (Unplaced c) = by_other (λ h. unplaced h) (unplaced_there design c) (unplaced_or_not c)
    holds_or_not (Outside c) = by_other (λ h. outside h) (outside_there design c) (outside_or_not c)
    holds_or_not (OffSite c) = by_other (λ h. off_site h) (off_site_there design c) (off_site_or_not c)
    holds_or_not (Overlap a b) = by_other (λ h. overlap h) (overlap_there design a b) (overlap_or_not a b)
    holds_or_not (Blocked c) = by_other (λ h. blocked h) (blocked_there design c) (blocked_or_not c)
    holds_or_not other = inr (λ h. let below = kind_below design other h in omega arith)

    -- it holds and names only components that stay, or not
    pub of_staying_or_not : (fault : Fault) → HoldsOrNot (IsStayingViolation design fault)
    of_staying_or_not fault =
        by_other (λ both. record { holds = both.0; staying = both.1 }) (λ h. (h.holds, h.staying))
        (both_or_not (holds_or_not fault)
        (all_or_not (λ c. IsMovable design c → ⊥) (λ c. never_or_not (movable_or_not design c)) (components_of fault)))
