-- Designs that are the same but for the order of entries that have names, and of terminals (lefdef's own rules).
use Rattle.std.specs.Prelude.{◌≡◌, ℕ, List, Contains}
use Rattle.leg_lib_records.specs.Records.{ViaModel}
use Rattle.leg_design_records.specs.declared.records.Component.{Component}
use Rattle.leg_design_records.specs.Records.{DesignModel, PinModel, NetModel}
use Rattle.leg_rules.specs.Compare.Spelling.{AreSameTerminals, spelled_terminals, spelled_wires}

-- the list has an element of this one's name that is the same
pub record HasSame {X : Type 0} (name_of : X → List ℕ) (Same : X → X → Type 0) (list : List X) (x : X) : Type 0 where
  pub y : X
  pub there : Contains list y
  pub name : name_of y ≡ name_of x
  pub same : Same x y

-- each list has for each element of the other one of its name that is the same
pub record AreSameByName {X : Type 0} (name_of : X → List ℕ) (Same : X → X → Type 0) (xs ys : List X) : Type 0 where
  pub first : (x : X) → Contains xs x → HasSame name_of Same ys x
  pub second : (y : X) → Contains ys y → HasSame name_of (λ b a. Same a b) xs y

-- a net of the first design and one of the second are spelled alike
pub record IsSameNet (first second : DesignModel) (a b : NetModel) : Type 0 where
  pub usage : a.usage ≡ b.usage
  pub terminals : AreSameTerminals (spelled_terminals first a.terminals) (spelled_terminals second b.terminals)
  pub wires : spelled_wires first a.wires ≡ spelled_wires second b.wires

-- each part is equal, and named entries are the same by name
pub record IsSameDesign (first second : DesignModel) : Type 0 where
  pub name : first.name ≡ second.name
  pub divider : first.divider ≡ second.divider
  pub bus : first.bus ≡ second.bus
  pub die : first.die ≡ second.die
  pub rows : first.rows ≡ second.rows
  pub tracks : first.tracks ≡ second.tracks
  pub blockages : first.blockages ≡ second.blockages
  pub vias : AreSameByName (λ (v : ViaModel). v.name) (λ a b. a ≡ b) first.vias second.vias
  pub components : AreSameByName (λ (c : Component). c.name) (λ a b. a ≡ b) first.components second.components
  pub pins : AreSameByName (λ (p : PinModel). p.name) (λ a b. a ≡ b) first.pins second.pins
  pub special : AreSameByName (λ (n : NetModel). n.name) (IsSameNet first second) first.special second.special
  pub nets : AreSameByName (λ (n : NetModel). n.name) (IsSameNet first second) first.nets second.nets
