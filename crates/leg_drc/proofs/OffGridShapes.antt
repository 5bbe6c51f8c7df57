-- Shapes of wires off the manufacturing grid.
use Rattle.std.proofs.Common.{◌≡◌, ◌↔◌, ℤ, pos, ◌<ℤ◌, Bool, IsTrue, Some, sym, ◌∙◌}
use Rattle.std.proofs.lemmas.Option.{same_Some}
use Rattle.leg_design_records.specs.Records.{DesignModel}
use Rattle.leg_rules.specs.declared.shape.Shape.{Shape}
use Rattle.leg_rules.specs.Metal.Flat.{FlatModel}
use Rattle.leg_drc_rules.specs.Records.{DeckModel}
use Rattle.leg_drc.specs.Wires.{IsOfWire}
use Rattle.leg_drc.specs.OneShape.{IsOffGrid}
use Rattle.leg_drc.specs.Steps.ShapeParts.{HasSideOff}

-- a shape of a wire is off a grid above 0 just where a side of it is
pub off_grid_told : (design : DesignModel) (deck : DeckModel) (flat : FlatModel) (shape : Shape) (grid : ℤ) → deck.grid ≡ Some grid → pos 0 <ℤ grid
    → IsOfWire flat shape → (test : Bool) → IsTrue test ↔ HasSideOff design.library.units grid shape.rect → IsTrue test ↔ IsOffGrid design deck flat shape
off_grid_told design deck flat shape grid has above of test side = (
  λ t.
      let off = side.0 t in
      record { grid = grid; z = off.z; of_wire = of; has_grid = has; above = above; side = off.side; off = off.off },
  λ off.
      let same : off.grid ≡ grid = same_Some off.grid grid (sym off.has_grid ∙ has) in
      side.1 (record { z = off.z; side = off.side; off = rw same at off.off }),
)
