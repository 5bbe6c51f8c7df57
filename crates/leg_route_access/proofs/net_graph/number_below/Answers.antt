use Rattle.std.proofs.Common.{◌≡◌, ◌-◌, ◌*◌, ℕ, length, refl, subst, arith}
use Rattle.leg_rules.specs.declared.side.Side.TheVariants.{Below}
use Rattle.leg_route_grid.specs.Steps.NodeNumbers.{IsNeighbourAt}
use Rattle.leg_route_access.proofs.TurnedSteps.{below_apart_at}
use Rattle.leg_route_access.proofs.net_graph.number_below.Goals as goal

pub overflow_mul-layer : goal.overflow_mul-layer
overflow_mul-layer g c =
    let apart = below_apart_at c.args.grid.now c.grid_is_sound.ensures.proper c.args.number c.requires.there.0 c.requires.there.1 in
    let many : c.rows.result * c.columns.result ≡ length c.args.grid.now.ys * length c.args.grid.now.xs = rw (c.rows.ensures, c.columns.ensures) refl in
    omega (arith, apart, many, c.ranges.number.fits)

pub overflow_sub-result : goal.overflow_sub-result
overflow_sub-result g c =
    let apart = below_apart_at c.args.grid.now c.grid_is_sound.ensures.proper c.args.number c.requires.there.0 c.requires.there.1 in
    let many : c.rows.result * c.columns.result ≡ length c.args.grid.now.ys * length c.args.grid.now.xs = rw (c.rows.ensures, c.columns.ensures) refl in
    omega (arith, apart, many)

pub returns : goal.returns
returns g c =
    let apart = below_apart_at c.args.grid.now c.grid_is_sound.ensures.proper c.args.number c.requires.there.0 c.requires.there.1 in
    let many : c.rows.result * c.columns.result ≡ length c.args.grid.now.ys * length c.args.grid.now.xs = rw (c.rows.ensures, c.columns.ensures) refl in
    let to : c.requires.there.0 ≡ c.args.number - c.rows.result * c.columns.result = omega (arith, apart, many) in
    let P : ℕ → Type 0 = λ n. IsNeighbourAt c.args.grid.now Below c.args.number n in
    subst P to c.requires.there.1
