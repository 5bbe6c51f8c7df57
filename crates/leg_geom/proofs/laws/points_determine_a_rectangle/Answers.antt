use Rattle.leg_geom.proofs.Corners.{HasAllPoints-both}
use Rattle.leg_geom.proofs.laws.points_determine_a_rectangle.Goals as goal

pub returns : goal.returns
returns c = HasAllPoints-both
