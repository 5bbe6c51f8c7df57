use Rattle.leg_geom.proofs.Gaps.{IsXGap-x_gap, IsYGap-y_gap}
use Rattle.leg_geom.proofs.laws.gaps_are_least.Goals as goal

pub returns : goal.returns
returns c = record { along_x = IsXGap-x_gap; along_y = IsYGap-y_gap }
