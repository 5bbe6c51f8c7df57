use Rattle.std.proofs.Common.{ap}
use Rattle.leg_route_grid.specs.Steps.Grid.{GridModel}
use Rattle.leg_route_grid.proofs.grid.grid_is_sound.Goals as goal

pub returns-clause-library : goal.returns-clause-library
returns-clause-library g c = rw (ap (λ (s : GridModel). s.design.library) c.grid.view_is) at c.design_is_sound.ensures.library
