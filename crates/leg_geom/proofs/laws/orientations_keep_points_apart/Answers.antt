use Rattle.leg_geom.proofs.Images.{same_image}
use Rattle.leg_geom.proofs.laws.orientations_keep_points_apart.Goals as goal

pub returns : goal.returns
returns c = same_image
