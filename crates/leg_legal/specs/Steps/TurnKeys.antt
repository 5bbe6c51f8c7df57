-- The keys by which movable components are sorted.
use Rattle.std.specs.Prelude.{◌≡◌, ℕ, ◌<◌, pos, ◌-ℤ◌, List, map, All, AllPairs, Contains}
use Rattle.leg_design_records.specs.Records.{DesignModel}
use Rattle.leg_legal.specs.declared.turns.TurnKey.{TurnKey}
use Rattle.leg_design_records.specs.Movable.{IsMovable}
use Rattle.leg_rules.specs.Legalise.Start.{start_of}
use Rattle.leg_rules.specs.Legalise.Turns.{IsOrderOfTaking}

-- the key of a movable component
pub record IsTurnKeyOf (design : DesignModel) (key : TurnKey) : Type 0 where
  pub movable : IsMovable design key.number
  pub narrow : key.narrow ≡ pos 0 -ℤ movable.master.size.width
  pub x : key.x ≡ (start_of design.die movable.component.place).x

-- the components of the keys
abbrev pub numbers : List TurnKey → List ℕ
numbers keys = map (λ key. key.number) keys

-- the keys of the movable components whose numbers are below end, in file order
pub record AreTurnKeysBelow (design : DesignModel) (end : ℕ) (keys : List TurnKey) : Type 0 where
  pub each : All (IsTurnKeyOf design) keys
  pub below : All (λ key. key.number < end) keys
  pub all : (c : ℕ) → c < end → IsMovable design c → Contains (numbers keys) c
  pub rising : AllPairs (λ a b. a.number < b.number) keys

-- the keys of all movable components, in the order in which these are taken
pub record AreInOrder (design : DesignModel) (keys : List TurnKey) : Type 0 where
  pub each : All (IsTurnKeyOf design) keys
  pub order : IsOrderOfTaking design (numbers keys)
