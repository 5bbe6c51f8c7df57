-- Whether a component is movable.
use Rattle.std.proofs.Common.{◌≡◌, ◌⊎◌, ◌↔◌, ℕ, Bool, true, IsTrue, Option, None, Some, slice_get, refl, sym, ◌∙◌, inl, inr}
use Rattle.std.specs.Option.{is_some}
use Rattle.std.proofs.lemmas.Bool.{false≢true}
use Rattle.std.proofs.lemmas.Option.{same_Some, none-some}
use Rattle.leg_lib_records.specs.Records.{MasterModel}
use Rattle.leg_design_records.specs.Records.{DesignModel}
use Rattle.leg_design_records.specs.declared.records.Status.{Status}
use Rattle.leg_design_records.specs.declared.records.Status.TheVariants as status
use Rattle.leg_design_records.specs.declared.records.Component.{Component}
use Rattle.leg_design_records.specs.Movable.{MayMove, IsMovable}

-- a value that is there, by a test
some_from_test : {X : Type 0} (o : Option X) → is_some o ≡ true → (x : X) × (o ≡ Some x)
some_from_test None test = absurd (false≢true test)
some_from_test (Some x) test = (x, refl)

-- whether a component is movable
may_move : (status : Status) → MayMove status ⊎ (MayMove status → ⊥)
may_move status.Unplaced = inl tt
may_move status.Placed = inl tt
may_move status.Fixed = inr (λ m. m)
may_move status.Cover = inr (λ m. m)

-- by the component, its macro and the macro's site, where there are any
module _ (design : DesignModel) (c : ℕ) (component : Component) (there : slice_get design.components c ≡ Some component) where
  component_is : (m : IsMovable design c) → m.component ≡ component
  component_is m = same_Some m.component component (sym m.there ∙ there)

  master_told : (m : IsMovable design c) → slice_get design.library.masters component.master ≡ Some m.master
  master_told m = let is : m.component ≡ component = component_is m in rw is at m.is_master

  movable_of_site : MayMove component.status → (master : MasterModel) → slice_get design.library.masters component.master ≡ Some master → (site : Option ℕ)
      → master.site ≡ site → IsMovable design c ⊎ (IsMovable design c → ⊥)
  movable_of_site may master is_master None no_site =
      inr (λ m.
      let same : m.master ≡ master = same_Some m.master master (sym (master_told m) ∙ is_master) in
      none-some m.number (sym no_site ∙ (rw same at m.site)))
  movable_of_site may master is_master (Some number) site =
      inl (record { component = component; there = there; status = may; master = master; is_master = is_master; number = number; site = site })

  movable_of_master : MayMove component.status → (master : Option MasterModel) → slice_get design.library.masters component.master ≡ master
      → IsMovable design c ⊎ (IsMovable design c → ⊥)
  movable_of_master may None no_master = inr (λ m. none-some m.master (sym no_master ∙ master_told m))
  movable_of_master may (Some master) is_master = movable_of_site may master is_master master.site refl

  movable_of_component : IsMovable design c ⊎ (IsMovable design c → ⊥)
  movable_of_component =
      elim (may_move component.status) [
        | inl may ↦ movable_of_master may (slice_get design.library.masters component.master) refl
        | inr may_not ↦ inr (λ m. may_not (let is : m.component ≡ component = component_is m in rw is at m.status))
      ]

-- the same by tests of its status and of its macro's site
pub movable_test : (design : DesignModel) (c : ℕ) (component : Component) (master : MasterModel) (b : Bool) → slice_get design.components c ≡ Some component
    → slice_get design.library.masters component.master ≡ Some master → MayMove component.status → b ≡ is_some master.site → IsTrue b ↔ IsMovable design c
movable_test design c component master b there is_master may test = (
  λ t.
      let some : (x : ℕ) × (master.site ≡ Some x) = some_from_test master.site (sym test ∙ t) in
      record { component = component; there = there; status = may; master = master; is_master = is_master; number = some.0; site = some.1 },
  λ m.
      let told : slice_get design.library.masters component.master ≡ Some m.master = master_told design c component there m in
      let same : m.master ≡ master = same_Some m.master master (sym told ∙ is_master) in
      test ∙ (rw (rw same at m.site) refl),
)

module _ (design : DesignModel) (c : ℕ) where
  movable_at : (component : Option Component) → slice_get design.components c ≡ component → IsMovable design c ⊎ (IsMovable design c → ⊥)
  movable_at None there = inr (λ m. none-some m.component (sym there ∙ m.there))
  movable_at (Some component) there = movable_of_component design c component there

  pub movable_or_not : IsMovable design c ⊎ (IsMovable design c → ⊥)
  movable_or_not = movable_at (slice_get design.components c) refl
