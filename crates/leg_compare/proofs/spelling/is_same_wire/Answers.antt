use Rattle.leg_compare.proofs.Decisions.{segment_alike, patch_alike}
use Rattle.leg_compare.proofs.spelling.is_same_wire.Goals as goal

pub returns-in-Segment : goal.returns-in-Segment
returns-in-Segment g c = segment_alike c.args.first.now c.args.second.now c.args.a.now c.args.b.now _ _ _ _ _ _ c.eq.result c.in-Segment.is c.eq.ensures

pub returns-in-Patch : goal.returns-in-Patch
returns-in-Patch g c = patch_alike c.args.first.now c.args.second.now c.args.a.now c.args.b.now _ _ _ c.eq-in-Patch.result c.in-Patch.is c.eq-in-Patch.ensures
