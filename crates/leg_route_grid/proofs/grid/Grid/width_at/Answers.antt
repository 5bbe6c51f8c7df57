use Rattle.std.proofs.Common.{FitsSigned, w64, ap, arith}
use Rattle.std.proofs.lemmas.Int.{ints, to_z-of_z}
use Rattle.leg_lib_records.specs.Sound.{IsSound}
use Rattle.leg_route_grid.specs.Steps.Grid.{GridModel}
use Rattle.leg_route_grid.proofs.GridSlots.{lies_at, runs_there}
use Rattle.leg_route_grid.proofs.OpenNodes.{width_is, runs_at_node}
use Rattle.leg_route_grid.proofs.grid.Grid.width_at.Goals as goal

pub returns-clause-is : goal.returns-clause-is
returns-clause-is g c node number =
    let grid = c.args.self.now in
    let runs = runs_there grid c.layer_at-layer.ensures.proper c.slot-slot.result.layer c.layer_at-layer.result c.layer_at-layer.ensures.is in
    let sound : IsSound grid.design.library = rw (ap (λ (s : GridModel). s.design.library) c.self.view_is) at c.design_is_sound.ensures.library in
    let wide = width_is grid.design.library _ _ _ sound runs in
    let fits : FitsSigned w64 c.layer_at-layer.result.width = let within = wide.within in omega (arith, ints, within) in
    let lies = lies_at grid c.args.number c.slot-slot.result.layer c.slot-slot.result.row c.slot-slot.result.column node c.slot-slot.ensures.is number in
    rw (to_z-of_z w64 c.layer_at-layer.result.width fits) (
      c.layer_at-layer.result.direction,
      runs_at_node grid c.slot-slot.result.layer c.slot-slot.result.row c.slot-slot.result.column node
          c.layer_at-layer.result c.layer_at-layer.ensures.is lies runs,
    )

pub returns-clause-proper : goal.returns-clause-proper
returns-clause-proper g c =
    let grid = c.args.self.now in
    let runs = runs_there grid c.layer_at-layer.ensures.proper c.slot-slot.result.layer c.layer_at-layer.result c.layer_at-layer.ensures.is in
    let sound : IsSound grid.design.library = rw (ap (λ (s : GridModel). s.design.library) c.self.view_is) at c.design_is_sound.ensures.library in
    let wide = width_is grid.design.library _ _ _ sound runs in
    let fits : FitsSigned w64 c.layer_at-layer.result.width = let within = wide.within in omega (arith, ints, within) in
    rw (to_z-of_z w64 c.layer_at-layer.result.width fits) wide
