-- Differences in order (lefdef's own rules): those of the designs as a whole; then section by section, the entries of the first
-- design in their order, each with its changes, and after them the entries that the second design has added.
use Rattle.std.specs.Prelude.{◌≡◌, ℕ, ◌+◌, ◌≤◌, ◌<◌, List, All, AllPairs, Contains}
use Rattle.leg_design_records.specs.Records.{DesignModel}
use Rattle.leg_rules.specs.declared.difference.Part.{Part}
use Rattle.leg_rules.specs.declared.difference.Part.TheVariants.{Name, Divider, BusBits, Die, Rows, Tracks, Blockages}
use Rattle.leg_rules.specs.declared.difference.Section.{Section}
use Rattle.leg_rules.specs.declared.difference.Section.TheVariants.{Vias, Components, Pins, SpecialNets, Nets}
use Rattle.leg_rules.specs.declared.difference.Change.{Change}
use Rattle.leg_rules.specs.declared.difference.Change.TheVariants.{Shapes, Macro, Place, Status, NetName, Direction, Usage, Ports, Terminals, LostWires, MoreWires}
use Rattle.leg_rules.specs.declared.difference.Difference.{Difference}
use Rattle.leg_rules.specs.declared.difference.Difference.TheVariants.{Whole, Gone, Changed, Added}
use Rattle.leg_rules.specs.Compare.Differences.{IsDifference}

-- the place of a part among the parts
abbrev pub part_number : Part → ℕ
part_number Name = 0
part_number Divider = 1
part_number BusBits = 2
part_number Die = 3
part_number Rows = 4
part_number Tracks = 5
part_number Blockages = 6

-- the place of what differs of entries of the first design; entries that are added follow it
abbrev pub section_number : Section → ℕ
section_number Vias = 1
section_number Components = 3
section_number Pins = 5
section_number SpecialNets = 7
section_number Nets = 9

-- the place of a change among those of one entry
abbrev pub change_number : Change → ℕ
change_number Shapes = 1
change_number Macro = 2
change_number Status = 3
change_number Place = 4
change_number NetName = 5
change_number Direction = 6
change_number Usage = 7
change_number Ports = 8
change_number Terminals = 9
change_number LostWires = 10
change_number MoreWires = 11

-- where a difference stands among others: first by its stage, then by the number of its part or entry, then by its change
pub record Rank : Type 0 where
  pub stage : ℕ
  pub entry : ℕ
  pub change : ℕ

-- the rank of a difference
abbrev pub rank : Difference → Rank
rank (Whole part) = record { stage = 0; entry = part_number part; change = 0 }
rank (Gone section i) = record { stage = section_number section; entry = i; change = 0 }
rank (Changed section change i) = record { stage = section_number section; entry = i; change = change_number change }
rank (Added section j) = record { stage = section_number section + 1; entry = j; change = 0 }

-- the first rank comes before the second
pub record IsBelow (a b : Rank) : Type 0 where
  pub stage : a.stage ≤ b.stage
  pub entry : a.stage ≡ b.stage → a.entry ≤ b.entry
  pub change : a.stage ≡ b.stage → a.entry ≡ b.entry → a.change < b.change

-- the first difference comes before the second in a list
abbrev pub IsListedBefore : Difference → Difference → Type 0
IsListedBefore d e = IsBelow (rank d) (rank e)

-- These are the differences of two designs: all of them, no other, each once, in order.
pub record AreAllDifferences (first second : DesignModel) (list : List Difference) : Type 0 where
  pub increasing : AllPairs IsListedBefore list
  pub each : All (IsDifference first second) list
  pub all : (d : Difference) → IsDifference first second d → Contains list d
