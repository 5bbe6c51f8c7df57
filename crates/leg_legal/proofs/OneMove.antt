-- A design in which one component has taken its place.
use Rattle.std.proofs.Common.{◌≡◌, ℕ, List, [], ◌∷◌, ◌++◌, Some, slice_get, refl, sym, ap, ◌∙◌, inl, inr}
use Rattle.std.proofs.lemmas.Bool.{cases_eq}
use Rattle.std.proofs.lemmas.List.Elements.{Contains-push_cases}
use Rattle.std.proofs.lemmas.Option.{same_Some}
use Rattle.leg_lemmas.proofs.Places.{set_here, set_elsewhere}
use Rattle.leg_geom.specs.Plane.{RectModel}
use Rattle.leg_geom.specs.declared.place.Place.{Place}
use Rattle.leg_lib_records.specs.Records.{MasterModel}
use Rattle.leg_design_records.specs.Records.{DesignModel}
use Rattle.leg_design_records.specs.declared.records.Component.{Component}
use Rattle.leg_rules.specs.Placement.Box.{box_of, placed_box, HasBox}
use Rattle.leg_design_records.specs.Movable.{IsMovable}
use Rattle.leg_rules.specs.Legalise.Free.{IsSettled, IsTaken}
use Rattle.leg_rules.specs.Legalise.Run.{placed_at, moved_to}

module _ (now : DesignModel) (c : ℕ) (component : Component) (place : Place) (at : slice_get now.components c ≡ Some component) where
  -- the component is there
  pub here : slice_get (moved_to now c component place).components c ≡ Some (placed_at component place)
  here = set_here now.components c component (placed_at component place) at

  -- and every other one is what it was
  pub elsewhere : (d : ℕ) → (d ≡ c → ⊥) → slice_get (moved_to now c component place).components d ≡ slice_get now.components d
  elsewhere d apart = set_elsewhere now.components c d (placed_at component place) (λ same. apart (sym same))

  -- what stands there is that component
  pub is_here : (other : Component) → slice_get (moved_to now c component place).components c ≡ Some other → other ≡ placed_at component place
  is_here other there = same_Some other (placed_at component place) (sym there ∙ here)

  -- its box
  pub box_here : (master : MasterModel) (box : RectModel) → slice_get now.library.masters component.master ≡ Some master
      → HasBox (moved_to now c component place) c box → box ≡ placed_box master.size place
  box_here master box is_master s =
      let told : box_of now.library (placed_at component place) ≡ Some box = rw (is_here s.component s.there) at s.placed in
      let is : box_of now.library (placed_at component place) ≡ Some (placed_box master.size place) = rw is_master refl in
      same_Some box (placed_box master.size place) (sym told ∙ is)

  -- the others stand where they stood
  pub box_elsewhere : (d : ℕ) (box : RectModel) → (d ≡ c → ⊥) → HasBox (moved_to now c component place) d box → HasBox now d box
  box_elsewhere d box apart s = record { component = s.component; there = sym (elsewhere d apart) ∙ s.there; placed = s.placed }

  module _ (movable : IsMovable now c) where
    -- what may move may still move
    pub movable_after : (d : ℕ) → IsMovable now d → IsMovable (moved_to now c component place) d
    movable_after d m =
        elim (cases_eq d c) [
          | inl same ↦
              let is : m.component ≡ component = same_Some m.component component (sym m.there ∙ ap (slice_get now.components) same ∙ at) in
              record {
                component = placed_at component place;
                there = rw same here;
                status = tt;
                master = m.master;
                is_master = rw is at m.is_master;
                number = m.number;
                site = m.site;
              }
          | inr apart ↦ record {
            component = m.component;
            there = elsewhere d apart ∙ m.there;
            status = m.status;
            master = m.master;
            is_master = m.is_master;
            number = m.number;
            site = m.site;
          }
        ]

    -- and could before
    pub movable_before : (d : ℕ) → IsMovable (moved_to now c component place) d → IsMovable now d
    movable_before d m =
        elim (cases_eq d c) [
          | inl same ↦ rw same movable
          | inr apart ↦ record {
            component = m.component;
            there = sym (elsewhere d apart) ∙ m.there;
            status = m.status;
            master = m.master;
            is_master = m.is_master;
            number = m.number;
            site = m.site;
          }
        ]

    -- another component that is settled was settled
    pub settled_before : (done : List ℕ) (d : ℕ) → (d ≡ c → ⊥) → IsSettled (moved_to now c component place) (done ++ c ∷ []) d → IsSettled now done d
    settled_before done d apart (inl stays) = inl (λ m. stays (movable_after d m))
    settled_before done d apart (inr has) =
        elim (Contains-push_cases done c d has) [
          | inl earlier ↦ inr earlier
          | inr same ↦ absurd (apart (sym same))
        ]

    -- and its box was taken
    pub taken_before : (done : List ℕ) (d : ℕ) (box : RectModel) → (d ≡ c → ⊥) → IsSettled (moved_to now c component place) (done ++ c ∷ []) d
        → HasBox (moved_to now c component place) d box → IsTaken now done box
    taken_before done d box apart settled stands =
        inl (record { d = d; settled = settled_before done d apart settled; stands = box_elsewhere d box apart stands })
