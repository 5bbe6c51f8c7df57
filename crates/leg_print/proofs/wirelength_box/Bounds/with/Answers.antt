use Rattle.std.proofs.Common.{◌≡◌}
use Rattle.leg_geom.proofs.Points.{sides, same_sides}
use Rattle.leg_print.specs.Steps.Wirelength.{joined}
use Rattle.leg_print.proofs.BoxRegisters.{register, min_kept, max_kept, box_joined}
use Rattle.leg_print.proofs.wirelength_box.Bounds.with.Goals as goal

same : (c : goal.After-max-2) → sides (register c.min.result) (register c.min-2.result) (register c.max.result)
    (register c.max-2.result) ≡ joined c.args.self.now c.args.other.now
same c =
    rw (← c.self.view_is, ← c.other.view_is)
    (same_sides _ _ _ _ _ _ _ _
    (min_kept _ c.self.inside.x1 c.other.inside.x1 c.self.invariant.x1 c.other.invariant.x1 c.min.ensures.value)
    (min_kept _ c.self.inside.y1 c.other.inside.y1 c.self.invariant.y1 c.other.invariant.y1 c.min-2.ensures.value)
    (max_kept _ c.self.inside.x2 c.other.inside.x2 c.self.invariant.x2 c.other.invariant.x2 c.max.ensures.value)
    (max_kept _ c.self.inside.y2 c.other.inside.y2 c.self.invariant.y2 c.other.invariant.y2 c.max-2.ensures.value))

pub invariant_of-result : goal.invariant_of-result
invariant_of-result c = rw (same c, ← c.self.view_is, ← c.other.view_is) (box_joined _ _ c.self.invariant c.other.invariant)

pub returns : goal.returns
returns c = same c
