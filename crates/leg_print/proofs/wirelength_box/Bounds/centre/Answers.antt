use Rattle.leg_geom.proofs.Points.{same_sides}
use Rattle.leg_print.proofs.BoxRegisters.{kept}
use Rattle.leg_print.proofs.wirelength_box.Bounds.centre.Goals as goal

pub returns : goal.returns
returns c =
    let x = kept c.middle-x.result c.middle-x.ensures.within in
    let y = kept c.middle-y.result c.middle-y.ensures.within in
    let x1 = kept c.self.inside.x1 c.self.invariant.x1 in
    let y1 = kept c.self.inside.y1 c.self.invariant.y1 in
    let x2 = kept c.self.inside.x2 c.self.invariant.x2 in
    let y2 = kept c.self.inside.y2 c.self.invariant.y2 in (
      record { x = c.middle-x.result; y = c.middle-y.result },
      same_sides _ _ _ _ _ _ _ _ x y x y,
      rw (← c.self.view_is) (record { x = rw (x1, x2) at c.middle-x.ensures.halfway; y = rw (y1, y2) at c.middle-y.ensures.halfway }),
    )
