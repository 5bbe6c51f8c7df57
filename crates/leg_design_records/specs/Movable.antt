-- Which components may be moved (lefdef's own rule).
use Rattle.std.specs.Prelude.{◌≡◌, ℕ, Some, slice_get}
use Rattle.leg_lib_records.specs.Records.{MasterModel}
use Rattle.leg_design_records.specs.declared.records.Status.{Status}
use Rattle.leg_design_records.specs.declared.records.Status.TheVariants.{Unplaced, Placed, Fixed, Cover}
use Rattle.leg_design_records.specs.declared.records.Component.{Component}
use Rattle.leg_design_records.specs.Records.{DesignModel}

-- a component may move whose status is UNPLACED or PLACED
abbrev pub MayMove : Status → Type 0
MayMove Unplaced = Unit {0}
MayMove Placed = Unit {0}
MayMove Fixed = ⊥
MayMove Cover = ⊥

-- component c of the design may move, and its macro has a SITE; every other component stays
pub record IsMovable (design : DesignModel) (c : ℕ) : Type 0 where
  pub component : Component
  pub there : slice_get design.components c ≡ Some component
  pub status : MayMove component.status
  pub master : MasterModel
  pub is_master : slice_get design.library.masters component.master ≡ Some master
  pub number : ℕ
  pub site : master.site ≡ Some number
