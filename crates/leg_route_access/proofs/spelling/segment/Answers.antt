use Rattle.std.proofs.Common.{◌≡◌, Some, FitsSigned, w64, refl, arith}
use Rattle.std.proofs.lemmas.Int.{ints, to_z-of_z}
use Rattle.leg_design_records.specs.Layers.{width_of_layer}
use Rattle.leg_rules.specs.Route.StepWires.{half}
use Rattle.leg_route_access.proofs.GridWires.{width_runs}
use Rattle.leg_route_access.proofs.spelling.segment.Goals as goal

pub returns : goal.returns
returns g c =
    let width_fits : FitsSigned w64 c.width_on-width.result = let wide = c.width_on-width.type_inv in omega (arith, ints, wide) in
    let half_fits : FitsSigned w64 c.half-extension.result = let wide = c.half-extension.type_inv in omega (arith, ints, wide) in
    let extension : c.half-extension.result ≡ half c.width_on-width.result = simp to_z-of_z at c.half-extension.ensures in
    let wide : width_of_layer c.args.design.now.library c.args.from.now.layer ≡ Some c.width_on-width.result =
    rw (← c.library.ensures.is) c.width_on-width.ensures.is in
    let runs = width_runs c.args.design.now.library c.args.from.now.layer c.width_on-width.result wide in
    rw (to_z-of_z w64 c.width_on-width.result width_fits, to_z-of_z w64 c.half-extension.result half_fits, extension)
    (record { direction = runs.0; width = c.width_on-width.result; runs = runs.1; is = refl })
