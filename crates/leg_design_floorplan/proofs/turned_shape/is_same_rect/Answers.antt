use Rattle.std.proofs.lemmas.Grind.{common_steps}
use Rattle.std.proofs.Common.{arith}
use Rattle.leg_design_floorplan.proofs.turned_shape.is_same_rect.Goals as goal
use Rattle.leg_design_floorplan.proofs.turned_shape.is_same_rect.Goals.{then-x1, else-x1, then-y1, else-y1}

pub returns-else-x2 : goal.returns-else-x2
returns-else-x2 c =
    elim c.if-y1.branch [
      | then-y1 w ↦ grind (arith, common_steps)
      | else-y1 w ↦ elim c.if-x1.branch [ then-x1 v ↦ grind (arith, common_steps) | else-x1 v ↦ grind (arith, common_steps) ]
    ]
