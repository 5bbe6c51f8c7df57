use Rattle.leg_design_floorplan.proofs.TurnedShapes.{turned_within}
use Rattle.leg_design_floorplan.proofs.turned_shape.turned_rect.Goals as goal

pub rect-requires : goal.rect-requires
rect-requires c = rw c.origin.ensures (turned_within c.args.orient c.args.rect.now c.x1-left.ensures.proper)
