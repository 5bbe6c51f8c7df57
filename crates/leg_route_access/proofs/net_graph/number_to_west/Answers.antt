use Rattle.std.proofs.Common.{◌≡◌, ◌-◌, ℕ, subst, arith}
use Rattle.leg_rules.specs.declared.side.Side.TheVariants.{West}
use Rattle.leg_route_grid.specs.Steps.NodeNumbers.{IsNeighbourAt}
use Rattle.leg_route_access.proofs.TurnedSteps.{west_apart}
use Rattle.leg_route_access.proofs.net_graph.number_to_west.Goals as goal

pub overflow_sub-result : goal.overflow_sub-result
overflow_sub-result g c =
    let apart = west_apart c.args.grid.now c.grid_is_sound.ensures.proper c.args.number c.requires.there.0 c.requires.there.1 in
    omega (arith, apart)

pub returns : goal.returns
returns g c =
    let apart = west_apart c.args.grid.now c.grid_is_sound.ensures.proper c.args.number c.requires.there.0 c.requires.there.1 in
    let to : c.requires.there.0 ≡ c.args.number - 1 = omega (arith, apart) in
    let P : ℕ → Type 0 = λ n. IsNeighbourAt c.args.grid.now West c.args.number n in
    subst P to c.requires.there.1
