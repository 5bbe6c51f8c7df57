-- What differs between two designs of one library (lefdef's own rules). Entries that have names are compared with those of the same
-- name, wherever they stand, and terminals of a net by their names, in whatever order. Lists whose elements have no names (rows,
-- tracks, blockages, ports, wires) are compared as they stand.
use Rattle.std.specs.Prelude.{◌≡◌, ◌≢◌, ℕ, List, ◌++◌, Some, slice_get}
use Rattle.leg_lib_records.specs.Records.{ViaModel}
use Rattle.leg_design_records.specs.declared.records.Status.{Status}
use Rattle.leg_design_records.specs.declared.records.Component.{Component}
use Rattle.leg_design_records.specs.Movable.{MayMove}
use Rattle.leg_design_records.specs.Records.{DesignModel, PinModel, NetModel}
use Rattle.leg_rules.specs.declared.difference.Part.{Part}
use Rattle.leg_rules.specs.declared.difference.Part.TheVariants.{Name, Divider, BusBits, Die, Rows, Tracks, Blockages}
use Rattle.leg_rules.specs.declared.difference.Section.{Section}
use Rattle.leg_rules.specs.declared.difference.Section.TheVariants.{Vias, Components, Pins, SpecialNets, Nets}
use Rattle.leg_rules.specs.declared.difference.Change.{Change}
use Rattle.leg_rules.specs.declared.difference.Change.TheVariants.{Shapes, Macro, Place, Status as OtherStatus, NetName, Direction, Usage, Ports, Terminals, LostWires, MoreWires}
use Rattle.leg_rules.specs.declared.difference.Difference.{Difference}
use Rattle.leg_rules.specs.declared.difference.Difference.TheVariants.{Whole, Gone, Changed, Added}
use Rattle.leg_rules.specs.Compare.Sections.{IsMissing, AreOfOneName}
use Rattle.leg_rules.specs.Compare.Spelling.{SpelledWire, AreSameTerminals, spelled_terminals, spelled_wires}

-- the designs differ in what a design has once
abbrev pub DiffersInPart : Part → DesignModel → DesignModel → Type 0
DiffersInPart Name first second = first.name ≢ second.name
DiffersInPart Divider first second = first.divider ≢ second.divider
DiffersInPart BusBits first second = first.bus ≢ second.bus
DiffersInPart Die first second = first.die ≢ second.die
DiffersInPart Rows first second = first.rows ≢ second.rows
DiffersInPart Tracks first second = first.tracks ≢ second.tracks
DiffersInPart Blockages first second = first.blockages ≢ second.blockages

-- a via of the design has other shapes, or what follows from them differs
abbrev pub DiffersAsVia : Change → ViaModel → ViaModel → Type 0
DiffersAsVia Shapes a b = a ≢ b
DiffersAsVia change a b = ⊥

-- the statuses differ, and not just as UNPLACED and PLACED do: these are told apart by the place
pub record IsOtherStatus (a b : Status) : Type 0 where
  pub other : a ≢ b
  pub fixed : ¬ (MayMove a × MayMove b)

-- a component is of another macro or status, or has another place, or has one where it had none
abbrev pub DiffersAsComponent : Change → Component → Component → Type 0
DiffersAsComponent Macro a b = a.master ≢ b.master
DiffersAsComponent OtherStatus a b = IsOtherStatus a.status b.status
DiffersAsComponent Place a b = a.place ≢ b.place
DiffersAsComponent change a b = ⊥

-- a pin names another net, direction or use, or has other ports
abbrev pub DiffersAsPin : Change → PinModel → PinModel → Type 0
DiffersAsPin NetName a b = a.net_name ≢ b.net_name
DiffersAsPin Direction a b = a.direction ≢ b.direction
DiffersAsPin Usage a b = a.usage ≢ b.usage
DiffersAsPin Ports a b = a.ports ≢ b.ports
DiffersAsPin change a b = ⊥

-- the second list is the first, and then more or nothing
pub record GoesOn (before after : List SpelledWire) : Type 0 where
  pub more : List SpelledWire
  pub is : after ≡ before ++ more

-- the second list is the first, and then something
pub record NetGrows (before after : List SpelledWire) : Type 0 where
  pub goes_on : GoesOn before after
  pub some : after ≢ before

-- a net of the first design and one of the second: another use, other terminals, wires that are lost, or more wires
abbrev pub DiffersAsNet : DesignModel → DesignModel → Change → NetModel → NetModel → Type 0
DiffersAsNet first second Usage a b = a.usage ≢ b.usage
DiffersAsNet first second Terminals a b = ¬ AreSameTerminals (spelled_terminals first a.terminals) (spelled_terminals second b.terminals)
DiffersAsNet first second LostWires a b = ¬ GoesOn (spelled_wires first a.wires) (spelled_wires second b.wires)
DiffersAsNet first second MoreWires a b = NetGrows (spelled_wires first a.wires) (spelled_wires second b.wires)
DiffersAsNet first second change a b = ⊥

-- the lists have elements of these numbers, and these differ so
pub record DifferAt {X : Type 0} (Differs : X → X → Type 0) (xs ys : List X) (i j : ℕ) : Type 0 where
  pub x : X
  pub y : X
  pub at_first : slice_get xs i ≡ Some x
  pub at_second : slice_get ys j ≡ Some y
  pub differ : Differs x y

-- entry i of the first design and entry j of the second differ so
abbrev pub HasChanged : Section → Change → DesignModel → DesignModel → ℕ → ℕ → Type 0
HasChanged Vias change first second i j = DifferAt (DiffersAsVia change) first.vias second.vias i j
HasChanged Components change first second i j = DifferAt (DiffersAsComponent change) first.components second.components i j
HasChanged Pins change first second i j = DifferAt (DiffersAsPin change) first.pins second.pins i j
HasChanged SpecialNets change first second i j = DifferAt (DiffersAsNet first second change) first.special second.special i j
HasChanged Nets change first second i j = DifferAt (DiffersAsNet first second change) first.nets second.nets i j

-- entry i of the first design has one of its name in the second, and they differ so
pub record IsChange (section : Section) (change : Change) (first second : DesignModel) (i : ℕ) : Type 0 where
  pub j : ℕ
  pub one_name : AreOfOneName section first second i j
  pub changed : HasChanged section change first second i j

-- this differs between the designs
abbrev pub IsDifference : DesignModel → DesignModel → Difference → Type 0
IsDifference first second (Whole part) = DiffersInPart part first second
IsDifference first second (Gone section i) = IsMissing section first second i
IsDifference first second (Changed section change i) = IsChange section change first second i
IsDifference first second (Added section j) = IsMissing section second first j
