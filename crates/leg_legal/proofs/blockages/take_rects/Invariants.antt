-- The rectangles so far are taken.
use Rattle.std.proofs.Common.{List, ◌++◌, take}
use Rattle.leg_geom.specs.Plane.{RectModel}
use Rattle.leg_legal_sites.specs.Steps.FreeLists.{AreFreeLists}
use Rattle.leg_legal.proofs.blockages.take_rects.Given as goal

abbrev pub invariant-loop-rect : goal.invariant-loop-rect
invariant-loop-rect g l = (boxes : List RectModel) → AreFreeLists l.design boxes l.fn.free → AreFreeLists l.design (boxes ++ take l.rect-index l.rects) l.free
