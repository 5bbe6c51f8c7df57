use Rattle.leg_polygon.proofs.OneList.{only_slabs}
use Rattle.leg_polygon.proofs.laws.slabs_are_determined.Goals as goal

pub returns : goal.returns
returns c = only_slabs
