-- In which order the movable components are taken (lefdef's own rule).
use Rattle.std.specs.Prelude.{◌≡◌, ℕ, ◌<◌, ℤ, ◌≤ℤ◌, List, All, AllPairs, Contains, Some, slice_get}
use Rattle.leg_lib_records.specs.Records.{MasterModel}
use Rattle.leg_design_records.specs.Records.{DesignModel}
use Rattle.leg_design_records.specs.declared.records.Component.{Component}
use Rattle.leg_design_records.specs.Movable.{IsMovable}
use Rattle.leg_rules.specs.Legalise.Start.{start_of}

-- by what turns are compared: how wide the component's macro is, from which x it starts, and its number
pub record Turn : Type 0 where
  pub width : ℤ
  pub x : ℤ
  pub number : ℕ

-- the wider macro comes first; of equally wide ones the one that starts further to the left, then the one that the file
-- has first
pub record IsEarlier (a b : Turn) : Type 0 where
  pub width : b.width ≤ℤ a.width
  pub x : a.width ≡ b.width → a.x ≤ℤ b.x
  pub number : a.width ≡ b.width → a.x ≡ b.x → a.number < b.number

-- the turn of component c
pub record HasTurn (design : DesignModel) (c : ℕ) (turn : Turn) : Type 0 where
  pub component : Component
  pub there : slice_get design.components c ≡ Some component
  pub master : MasterModel
  pub is_master : slice_get design.library.masters component.master ≡ Some master
  pub is : turn ≡ record { width = master.size.width; x = (start_of design.die component.place).x; number = c }

-- component c is taken before component d
pub record IsTakenBefore (design : DesignModel) (c d : ℕ) : Type 0 where
  pub turn_c : Turn
  pub turn_d : Turn
  pub has_c : HasTurn design c turn_c
  pub has_d : HasTurn design d turn_d
  pub earlier : IsEarlier turn_c turn_d

-- all movable components, each once, in the order in which they are taken
pub record IsOrderOfTaking (design : DesignModel) (order : List ℕ) : Type 0 where
  pub in_order : AllPairs (IsTakenBefore design) order
  pub each : All (IsMovable design) order
  pub all : (c : ℕ) → IsMovable design c → Contains order c
