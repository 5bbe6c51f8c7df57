-- A component of a design, and its macro, by their numbers.
use Rattle.std.proofs.Common.{◌≡◌, ℕ, ◌<◌, List, Some, slice_get, length, get_or, refl}
use Rattle.std.proofs.lemmas.Option.{slice_get_read, slice_get_within, get_or_from_slice_get}
use Rattle.leg_lib_records.specs.Records.{MasterModel}
use Rattle.leg_design_records.specs.Records.{DesignModel}
use Rattle.leg_design_records.specs.WellFormed.{IsWellFormed}
use Rattle.leg_design_records.specs.WellFormedParts.{IsComponent}
use Rattle.leg_design_records.specs.declared.records.Component.{Component}

module _ (design : DesignModel) (number : ℕ) (component : Component) where
  pub component_read : (components : List Component) → components ≡ design.components → number < length components
      → component ≡ get_or components number component → slice_get design.components number ≡ Some component
  component_read components are within is =
      let read : slice_get components number ≡ Some component = slice_get_read components (length components) number component refl within is in
      rw are at read

  pub master_read : IsWellFormed design → slice_get design.components number ≡ Some component → (masters : List MasterModel) → masters ≡ design.library.masters
      → (master : MasterModel) → master ≡ get_or masters component.master master → slice_get design.library.masters component.master ≡ Some master
  master_read proper there masters are master is =
      let is_there : get_or design.components number component ≡ component = get_or_from_slice_get design.components number component component there in
      let part : IsComponent design.library component =
      rw is_there at (proper.components.each number component (slice_get_within design.components number component there)) in
      let below : component.master < length masters = rw are part.master in
      let read : slice_get masters component.master ≡ Some master = slice_get_read masters (length masters) component.master master refl below is in
      rw are at read
