use Rattle.leg_polygon.proofs.SlabSquares.{AreSlabs-slabs}
use Rattle.leg_polygon.proofs.laws.slabs_have_the_squares.Goals as goal

pub returns : goal.returns
returns c = AreSlabs-slabs
