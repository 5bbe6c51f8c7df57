use Rattle.leg_grammar.specs.declared.limits.TheConstants.{POLYGON_SLABS}
use Rattle.leg_design_common.proofs.ReadPolygons.{slabs_lie}
use Rattle.leg_design_common.proofs.polygon.slabs_within.Goals as goal

pub returns-in-Ok-clause-within : goal.returns-in-Ok-clause-within
returns-in-Ok-clause-within g c =
    slabs_lie POLYGON_SLABS c.in_ok-vertices.vertices.items c.in-Ok.slabs.items c.in_ok-vertices.ensures.within
    (rw c.deref.ensures.value at c.in-Ok.ensures.slabs)
