use Rattle.std.proofs.Common.{◌≡◌, Some, FitsSigned, w64, refl, arith}
use Rattle.std.proofs.lemmas.Int.{ints, to_z-of_z}
use Rattle.leg_lib_records.specs.Sound.{IsSound}
use Rattle.leg_design_records.specs.Layers.{width_of_layer}
use Rattle.leg_rules.specs.Route.StepWires.{half, square}
use Rattle.leg_route_access.proofs.GridWires.{width_runs}
use Rattle.leg_route_grid.proofs.OpenNodes.{width_is}
use Rattle.leg_route_access.proofs.spelling.patch.Goals as goal

pub square-requires : goal.square-requires
square-requires g c =
    let width_fits : FitsSigned w64 c.width_on-width.result = let wide = c.width_on-width.type_inv in omega (arith, ints, wide) in
    let wide : width_of_layer c.args.design.now.library c.args.node.now.layer ≡ Some c.width_on-width.result =
    rw (← c.library.ensures.is) c.width_on-width.ensures.is in
    let runs = width_runs c.args.design.now.library c.args.node.now.layer c.width_on-width.result wide in
    let sound : IsSound c.args.design.now.library = rw (← c.library.ensures.is) c.width_on-width.ensures.proper in
    rw (to_z-of_z w64 c.width_on-width.result width_fits)
    (width_is c.args.design.now.library c.args.node.now.layer runs.0 c.width_on-width.result sound runs.1)

pub returns-clause-proper : goal.returns-clause-proper
returns-clause-proper g c = rw (← c.library.ensures.is) c.width_on-width.ensures.proper

pub returns-clause-adds : goal.returns-clause-adds
returns-clause-adds g c =
    let width_fits : FitsSigned w64 c.width_on-width.result = let wide = c.width_on-width.type_inv in omega (arith, ints, wide) in
    let wide : width_of_layer c.args.design.now.library c.args.node.now.layer ≡ Some c.width_on-width.result =
    rw (← c.library.ensures.is) c.width_on-width.ensures.is in
    let runs = width_runs c.args.design.now.library c.args.node.now.layer c.width_on-width.result wide in
    let square_is : c.square.result ≡ square (half c.width_on-width.result) = simp to_z-of_z at c.square.ensures.is in
    rw square_is (record { direction = runs.0; width = c.width_on-width.result; runs = runs.1; is = refl })
