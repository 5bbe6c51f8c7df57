-- A flat that grows by a wire of a net.
use Rattle.std.specs.Prelude.{◌≡◌, ℕ, ◌+◌, List, ◌++◌, length, None, Some, slice_get, slice_set}
use Rattle.leg_lib_records.specs.Scale.{OneForOne}
use Rattle.leg_design_records.specs.declared.records.Terminal.{Terminal}
use Rattle.leg_design_records.specs.declared.records.Wire as records
use Rattle.leg_design_records.specs.Records.{DesignModel}
use Rattle.leg_rules.specs.declared.owner.Owner.TheVariants.{Net}
use Rattle.leg_rules.specs.declared.shape.Shape.{Shape}
use Rattle.leg_rules.specs.Metal.Metal.{Metal, belonging, wire_outlines}
use Rattle.leg_rules.specs.Metal.Flat.{FlatModel, IsShapeOf, pieces_with}

-- the metal of a wire, as piece k of this net
abbrev pub wire_metal : DesignModel → ℕ → ℕ → records.Wire → List Metal
wire_metal design net k wire =
    belonging (record { owner = Net net; component = None; piece = Some k }) (wire_outlines design wire)

-- The flat with one wire more of this net: the wire is the last piece of the net, its number comes after those of the net's
-- other wires, and its shapes come after all others.
pub record HasOneMoreWire (design : DesignModel) (net : ℕ) (wire : records.Wire) (before after : FlatModel) : Type 0 where
  pub terminals : List Terminal
  pub wires : ℕ
  pub there : slice_get before.pieces net ≡ Some (pieces_with terminals wires)
  pub pieces : after.pieces ≡ slice_set before.pieces net (pieces_with terminals (wires + 1))
  pub added : List Shape
  pub shapes : after.shapes ≡ before.shapes ++ added
  pub each : OneForOne IsShapeOf (wire_metal design net (length terminals + wires) wire) added
