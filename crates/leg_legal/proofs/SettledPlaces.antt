-- What is settled breaks no rule among itself, and goes on so.
use Rattle.std.proofs.Common.{◌≡◌, ℕ, List, [], ◌∷◌, ◌++◌, Some, slice_get, All, sym, ◌∙◌, inl, inr, arith}
use Rattle.std.proofs.lemmas.Bool.{cases_eq}
use Rattle.std.proofs.lemmas.List.Elements.{All-nil, All-cons, All-head, All-tail}
use Rattle.std.proofs.lemmas.Option.{same_Some, none-some}
use Rattle.leg_lemmas.proofs.Places.{contains_at}
use Rattle.leg_geom.specs.Plane.{RectModel, ShareSquare}
use Rattle.leg_geom.specs.declared.place.Place.{Place}
use Rattle.leg_geom.proofs.Gaps.{ShareSquare-symmetric}
use Rattle.leg_design_records.specs.Records.{DesignModel}
use Rattle.leg_design_records.specs.declared.fault.Fault.{Fault}
use Rattle.leg_design_records.specs.declared.fault.Fault.TheVariants.{Unplaced, Outside, OffSite, Overlap, Blocked}
use Rattle.leg_design_records.specs.Violation.{components_of}
use Rattle.leg_design_records.specs.declared.records.Component.{Component}
use Rattle.leg_rules.specs.Placement.Box.{placed_box, HasBox}
use Rattle.leg_rules.specs.Placement.Violations.{IsUnplaced, IsOutside, IsBlocked, IsPlacementViolation}
use Rattle.leg_rules.specs.Placement.Violations.IsPlacementViolation.{unplaced, outside, off_site, overlap, blocked}
use Rattle.leg_rules.specs.Placement.Sites.{IsOffSite}
use Rattle.leg_design_records.specs.Movable.{IsMovable}
use Rattle.leg_rules.specs.declared.position.Candidate.{Candidate}
use Rattle.leg_rules.specs.Legalise.Free.{IsSettled, IsFree}
use Rattle.leg_rules.specs.Legalise.Run.{placed_at, moved_to}
use Rattle.leg_legal.proofs.OneMove.{elsewhere, is_here, box_here, box_elsewhere, movable_before, settled_before, taken_before}
use Rattle.leg_legal.proofs.OnRow.{HasSoundRows, stands_on_row}

-- no violation of placement holds that names only settled components
pub record NoneSettled (design : DesignModel) (done : List ℕ) : Type 0 where
  pub none : (fault : Fault) → IsPlacementViolation design fault → All (IsSettled design done) (components_of fault) → ⊥

-- one more component takes a free position
module _ (now : DesignModel) (sound : HasSoundRows now) (done : List ℕ) (c : ℕ) (component : Component) (place : Place)
    (at : slice_get now.components c ≡ Some component) (movable : IsMovable now c)
    (position : Candidate) (free : IsFree now done c position place) (before : NoneSettled now done) where
  abbrev after : DesignModel
  after = moved_to now c component place

  abbrev more : List ℕ
  more = done ++ c ∷ []

  same_component : free.stands.component ≡ component
  same_component = same_Some free.stands.component component (sym free.stands.there ∙ at)

  is_master : slice_get now.library.masters component.master ≡ Some free.stands.master
  is_master = rw same_component at free.stands.is_master

  -- it has a place
  placed_here : IsUnplaced after c → ⊥
  placed_here h =
      let is : h.component ≡ placed_at component place = is_here now c component place at h.component h.there in
      none-some place (sym (rw is at h.unplaced))

  -- it lies in the die
  inside_here : IsOutside after c → ⊥
  inside_here h =
      let is : h.box ≡ placed_box free.stands.master.size place = box_here now c component place at free.stands.master h.box is_master h.stands in
      h.outside (free.clear.inside h.square (rw is at h.inside))

  -- it stands on sites
  on_site_here : IsOffSite after c → ⊥
  on_site_here h =
      let is : h.component ≡ placed_at component place = is_here now c component place at h.component h.there in
      let same_place : h.place ≡ place = same_Some h.place place (sym (rw is at h.placed)) in
      let told : slice_get now.library.masters component.master ≡ Some h.master = rw is at h.is_master in
      let same_master : h.master ≡ free.stands.master = same_Some h.master free.stands.master (sym told ∙ is_master) in
      let same_number : h.number ≡ free.stands.row.site = same_Some h.number free.stands.row.site (sym (rw same_master at h.site) ∙ free.stands.same) in
      h.none free.stands.row (contains_at now.rows position.row free.stands.row free.stands.is_row)
      (rw (same_master, same_number, same_place) (stands_on_row now sound c position place free.stands))

  -- no other settled component shares a unit square with it
  alone_here : (d : ℕ) (box other : RectModel) → (d ≡ c → ⊥) → IsSettled after more d → HasBox after c box → HasBox after d other → ShareSquare other box → ⊥
  alone_here d box other apart settled stands_c stands_d shared =
      let is : box ≡ placed_box free.stands.master.size place = box_here now c component place at free.stands.master box is_master stands_c in
      free.clear.alone other (taken_before now c component place at movable done d other apart settled stands_d) (rw is at shared)

  -- no placement blockage does
  clear_here : IsBlocked after c → ⊥
  clear_here h =
      let is : h.box ≡ placed_box free.stands.master.size place = box_here now c component place at free.stands.master h.box is_master h.stands in
      free.clear.alone h.rect (inr h.blocks) (rw is at (ShareSquare-symmetric h.box h.rect h.shared))

  -- another component that is settled was settled before
  one_before : (d : ℕ) → (d ≡ c → ⊥) → All (IsSettled after more) (d ∷ []) → All (IsSettled now done) (d ∷ [])
  one_before d apart settled =
      All-cons (IsSettled now done) d []
      (settled_before now c component place at movable done d apart (All-head (IsSettled after more) d [] settled))
      (All-nil (IsSettled now done))

  none_after : (fault : Fault) → IsPlacementViolation after fault → All (IsSettled after more) (components_of fault) → ⊥
  none_after v (unplaced {c = d} h) settled =
      elim (cases_eq d c) [
        | inl same ↦ placed_here (rw same at h)
        | inr apart ↦
            before.none (Unplaced d)
            (unplaced (record { component = h.component; there = sym (elsewhere now c component place at d apart) ∙ h.there; unplaced = h.unplaced }))
            (one_before d apart settled)
      ]
  none_after v (outside {c = d} h) settled =
      elim (cases_eq d c) [
        | inl same ↦ inside_here (rw same at h)
        | inr apart ↦
            before.none (Outside d)
            (outside (record {
              box = h.box;
              stands = box_elsewhere now c component place at d h.box apart h.stands;
              square = h.square;
              inside = h.inside;
              outside = h.outside;
            }))
            (one_before d apart settled)
      ]
  none_after v (off_site {c = d} h) settled =
      elim (cases_eq d c) [
        | inl same ↦ on_site_here (rw same at h)
        | inr apart ↦
            before.none (OffSite d)
            (off_site (record {
              component = h.component;
              there = sym (elsewhere now c component place at d apart) ∙ h.there;
              place = h.place;
              placed = h.placed;
              master = h.master;
              is_master = h.is_master;
              number = h.number;
              site = h.site;
              none = h.none;
            }))
            (one_before d apart settled)
      ]
  none_after v (overlap {a = a} {b = b} h) settled =
      let a_settled = All-head (IsSettled after more) a (b ∷ []) settled in
      let b_settled = All-tail (IsSettled after more) a (b ∷ []) settled in
      elim (cases_eq a c) [
        | inl a_is ↦
            alone_here b h.box_a h.box_b (λ b_is. omega (arith, h.in_order)) (All-head (IsSettled after more) b [] b_settled) (rw a_is at h.stands_a)
            h.stands_b
            (ShareSquare-symmetric h.box_a h.box_b h.shared)
        | inr a_apart ↦ elim (cases_eq b c) [
          | inl b_is ↦ alone_here a h.box_b h.box_a a_apart a_settled (rw b_is at h.stands_b) h.stands_a h.shared
          | inr b_apart ↦
              before.none (Overlap a b)
              (overlap (record {
                in_order = h.in_order;
                box_a = h.box_a;
                box_b = h.box_b;
                stands_a = box_elsewhere now c component place at a h.box_a a_apart h.stands_a;
                stands_b = box_elsewhere now c component place at b h.box_b b_apart h.stands_b;
                shared = h.shared;
              }))
              (All-cons (IsSettled now done) a (b ∷ [])
              (settled_before now c component place at movable done a a_apart a_settled)
              (one_before b b_apart b_settled))
        ]
      ]
  none_after v (blocked {c = d} h) settled =
      elim (cases_eq d c) [
        | inl same ↦ clear_here (rw same at h)
        | inr apart ↦
            before.none (Blocked d)
            (blocked (record {
              movable = movable_before now c component place at movable d h.movable;
              box = h.box;
              stands = box_elsewhere now c component place at d h.box apart h.stands;
              rect = h.rect;
              blocks = h.blocks;
              shared = h.shared;
            }))
            (one_before d apart settled)
      ]

  pub settled_more : NoneSettled (moved_to now c component place) (done ++ c ∷ [])
  settled_more = record { none = none_after }
