use Rattle.leg_flat.proofs.SomeFlat.{some_flat}
use Rattle.leg_flat.proofs.laws.design_has_a_flat.Goals as goal

pub returns : goal.returns
returns c = some_flat c.placed_rectangles_are_images.ensures
