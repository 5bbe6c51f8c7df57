-- What a DEF writes for terminals and wires: entries of a design stand there by their names, so that the same text means the
-- same in designs whose entries are in another order.
use Rattle.std.specs.Prelude.{◌↔◌, ℕ, List, map, Contains}
use Rattle.leg_geom.specs.Plane.{PointModel}
use Rattle.leg_design_records.specs.declared.records.Terminal.{Terminal}
use Rattle.leg_design_records.specs.declared.records.Wire.{Wire}
use Rattle.leg_design_records.specs.declared.records.Wire.TheVariants.{Segment, ViaAt, Patch}
use Rattle.leg_design_records.specs.Records.{DesignModel}
use Rattle.leg_design_records.specs.Names.{via_name, terminal_names}

-- terminals by their names
abbrev pub spelled_terminals : DesignModel → List Terminal → List (List ℕ × List ℕ)
spelled_terminals design terminals = map (terminal_names design) terminals

-- A terminal by its names is in the one list just when it is in the other: their order means nothing.
abbrev pub AreSameTerminals : List (List ℕ × List ℕ) → List (List ℕ × List ℕ) → Type 0
AreSameTerminals before after = (terminal : List ℕ × List ℕ) → Contains before terminal ↔ Contains after terminal

-- a wire as it is spelled: metal by its numbers, a via by its name and its point
pub data SpelledWire : Type 0 where
  metal : (wire : Wire) → SpelledWire
  via : (name : List ℕ) (at : PointModel) → SpelledWire

-- how a wire of the design is spelled
abbrev pub spelled_wire : DesignModel → Wire → SpelledWire
spelled_wire design (Segment layer from to width ext_from ext_to) = metal (Segment layer from to width ext_from ext_to)
spelled_wire design (ViaAt number at) = via (via_name design number) at
spelled_wire design (Patch layer at rect) = metal (Patch layer at rect)

-- wires in their order
abbrev pub spelled_wires : DesignModel → List Wire → List SpelledWire
spelled_wires design wires = map (spelled_wire design) wires
