use Rattle.std.proofs.Common.{◌≡◌, get_or}
use Rattle.std.proofs.lemmas.Option.{get_or_from_slice_get}
use Rattle.leg_route_grid.specs.declared.layers.RoutingLayer.{RoutingLayer}
use Rattle.leg_route_grid.proofs.grid.marks_at.Goals as goal

pub returns : goal.returns
returns g c layer there =
    let read : (d : RoutingLayer) → get_or c.args.layers.now c.args.k d ≡ layer = λ d. get_or_from_slice_get c.args.layers.now c.args.k layer d there in
    simp read at c.in_ok-marks.ensures
