-- The wire with which those of a walk begin.
use Rattle.std.specs.Prelude.{ℕ, List, [], ◌∷◌, drop}
use Rattle.leg_design_records.specs.declared.records.Wire.{Wire}
use Rattle.leg_design_records.specs.Records.{DesignModel}
use Rattle.leg_rules.specs.declared.node.Node.{Node}
use Rattle.leg_rules.specs.Route.Spelling.{Spells}

-- the wires of the walk over these nodes, of which there is one at least
abbrev pub SpellsAll : DesignModel → List Node → List Wire → Type 0
SpellsAll design [] wires = ⊥
SpellsAll design (a ∷ nodes) wires = Spells design a nodes wires

-- the wires of the walk begin with this one, which takes this many steps
abbrev pub BeginsWithWire : DesignModel → List Node → Wire → ℕ → Type 0
BeginsWithWire design nodes wire steps = (wires : List Wire) → SpellsAll design (drop steps nodes) wires → SpellsAll design nodes (wire ∷ wires)
