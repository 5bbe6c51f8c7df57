use Rattle.leg_geom.proofs.Images.{IsImage-placed_rect}
use Rattle.leg_geom.proofs.laws.placed_rectangles_are_images.Goals as goal

pub returns : goal.returns
returns c = IsImage-placed_rect
