use Rattle.leg_geom.proofs.Gaps.{ShareSquare-symmetric}
use Rattle.leg_geom.proofs.laws.sharing_is_symmetric.Goals as goal

pub returns : goal.returns
returns c = ShareSquare-symmetric
